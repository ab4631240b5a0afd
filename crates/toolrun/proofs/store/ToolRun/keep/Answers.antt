use Rattle.std.proofs.Common.{◌≡◌, ◌+◌, ltb, leb, length, vec_items, vec_len, sym, refl, ap, ◌∙◌, arith, rules}
use Rattle.std.proofs.ResultArms.{chosen}
use Rattle.tools.specs.Calls.{told}
use Rattle.toolrun.specs.Told.{all_within, told_bytes}
use Rattle.std.proofs.lemmas.Bool.{and_parts, leb-true}
use Rattle.toolrun.proofs.Telling.{within_push, bytes_push, size_told, bytes_told, within_told, answer_told}
use Rattle.toolrun.proofs.Keeping.{room_is}
use Rattle.toolrun.proofs.store.ToolRun.keep.Goals as goal

pub returns-then-not-has_room : goal.returns-then-not-has_room
returns-then-not-has_room c = (sym (c.if-not-has_room.ensures ∙ room_is c.args.self.now (told c.args.answer) (length c.unwrap_or-text.result.now) (size_told c.args.answer _ c.unwrap_or-text.result refl c.unwrap_or-text.ensures)), refl, refl)

pub invariant_of-self : goal.invariant_of-self
invariant_of-self c =
    let s = c.args.self.now in
    let n = vec_len s.pool in
    let m = vec_len c.extend_from_slice.new.self in
    let items = c.push_reserved.ensures.items in
    let longer : m ≡ n + length c.unwrap_or-text.result.now = search rules in
    record {
      room = search rules;
      few = search rules;
      within = ap (all_within m) items ∙ within_push n m (vec_items s.told) c.and.result (omega arith) s.within (within_told c.args.answer c.unwrap_or-text.result c.and.result c.len.result m c.and.ensures (omega (arith, c.len.ensures)));
      filled = ap told_bytes items ∙ bytes_push (vec_items s.told) c.and.result ∙ omega (arith, s.filled, bytes_told c.args.answer _ c.unwrap_or-text.result c.and.result c.len.result refl c.unwrap_or-text.ensures c.and.ensures);
    }

pub returns : goal.returns
returns c =
    let s = c.args.self.now in
    let room = leb-true (vec_len s.pool + length c.unwrap_or-text.result.now) 4096 (and_parts (ltb (vec_len s.told) 16) (leb (vec_len s.pool + length c.unwrap_or-text.result.now) 4096) (sym c.if-not-has_room.ensures)).1 in
    let pool = chosen _ _ _ _ c.extend_from_slice.ensures.items (c.extend_from_slice.ensures.succeeds (omega (arith, room))) in (
      sym (c.if-not-has_room.ensures ∙ room_is s (told c.args.answer) (length c.unwrap_or-text.result.now) (size_told c.args.answer _ c.unwrap_or-text.result refl c.unwrap_or-text.ensures)),
      answer_told c.args.answer _ c.unwrap_or-text.result c.and.result (vec_items s.pool) _ (vec_items s.told) _ c.len.result refl c.unwrap_or-text.ensures c.and.ensures (c.len.ensures ∙ s.pool.ok.0) pool c.push_reserved.ensures.items (ap (λ k. all_within k (vec_items s.told)) (sym s.pool.ok.0) ∙ s.within),
    )
