use Rattle.std.proofs.Common.{◌≡◌, ◌+◌, ◌<◌, ◌≤◌, [], ◌∷◌, ◌++◌, length, vec_items, vec_len, sym, refl, ap, ◌∙◌, subst, arith}
use Rattle.std.proofs.ResultArms.{chosen}
use Rattle.caches.specs.Entries.{entry}
use Rattle.caches.specs.Slots.{slot_entries, Fit}
use Rattle.caches.proofs.Lists.{not_added, added_end}
use Rattle.caches.proofs.Rows.{fit_grown, lens_grown, entries_grown, linked_grown, room_is, room_facts}
use Rattle.caches.proofs.keeper.KeeperCache.add.Goals as goal
use Rattle.caches.proofs.keeper.KeeperCache.add.Goals.{After-enlist}

pub returns-then-not-has_room : goal.returns-then-not-has_room
returns-then-not-has_room c =
    let s = c.args.self.now in
    let e = entry c.args.offer.key c.args.offer.product c.args.offer.answers.now in
    let slots = vec_items s.slots in
    let row = vec_items s.answers in
    let es = slot_entries slots row in
    record {
      added = not_added e es es refl;
      exactly = (c.if-not-has_room.ensures ∙ room_is e slots row (vec_len s.slots) (vec_len s.answers) s.slots.ok.0 s.filled (subst (Fit slots) s.answers.ok.0 s.fit), refl);
    }

few : (c : After-enlist) → (vec_len c.args.self.now.slots < 128) × (length c.args.offer.answers.now ≤ 64) × (vec_len c.args.self.now.answers + length c.args.offer.answers.now ≤ 1024)
few c = room_facts (vec_len c.args.self.now.slots) (length c.args.offer.answers.now) (vec_len c.args.self.now.answers + length c.args.offer.answers.now) c.if-not-has_room.ensures

row_is : (c : After-enlist) → (vec_items c.extend_from_slice.new.self ≡ vec_items c.args.self.now.answers ++ c.args.offer.answers.now) × (vec_len c.extend_from_slice.new.self ≡ vec_len c.args.self.now.answers + length c.args.offer.answers.now)
row_is c =
    let h = few c in
    let ok = c.extend_from_slice.ensures.succeeds (omega (arith, h.2, c.args.self.now.room.1)) in
    (chosen _ _ _ _ c.extend_from_slice.ensures.items ok, chosen _ _ _ _ c.extend_from_slice.ensures.len ok)

pub invariant_of-self : goal.invariant_of-self
invariant_of-self c =
    let here = (goal.at.invariant_of-self c).After-enlist in
    let h = few here in
    let t = row_is here in
    let s = c.args.self.now in
    let slots = vec_items s.slots in
    let slots' = vec_items c.push_reserved.new.self in
    let one = c.push_reserved.ensures.items in
    let index = c.enlist.ensures.enlists in
    record {
      room = (omega (arith, c.push_reserved.ensures.capacity, s.room.0), omega (arith, c.extend_from_slice.ensures.capacity, s.room.1), omega (arith, c.enlist.ensures.capacity, s.room.2));
      few = (omega (arith, c.push_reserved.ensures.len, h.0), omega (arith, t.1, h.2), omega (arith, c.enlist.ensures.len, c.push_reserved.ensures.len, s.few.2));
      fit = fit_grown slots slots' _ one (vec_len s.answers) (vec_len c.extend_from_slice.new.self) s.fit (omega (arith, t.1)) (omega (arith, t.1, c.len.ensures));
      filled = lens_grown slots slots' _ one ∙ ap (λ n. n + length c.args.offer.answers.now) s.filled ∙ sym t.1;
      sorted = index.sorted;
      below = λ k d lt. omega (arith, index.below k d lt, c.len-entry.ensures, c.push_reserved.ensures.len);
      linked = λ k. linked_grown slots slots' _ one (vec_items s.index) (vec_items c.enlist.new.index) k c.len-entry.result (index.numbers k) (s.linked k) (omega (arith, c.len-entry.ensures, s.slots.ok.0));
    }

pub returns : goal.returns
returns c =
    let here = (goal.at.returns c).After-enlist in
    let h = few here in
    let t = row_is here in
    let s = c.args.self.now in
    let e = entry c.args.offer.key c.args.offer.product c.args.offer.answers.now in
    let slots = vec_items s.slots in
    let row = vec_items s.answers in
    let es = slot_entries slots row in
    let slots' = vec_items c.push_reserved.new.self in
    let row' = vec_items c.extend_from_slice.new.self in
    let fit : Fit slots (length row) = subst (Fit slots) s.answers.ok.0 s.fit in
    let is : slot_entries slots' row' ≡ es ++ e ∷ [] = entries_grown slots slots' _ c.push_reserved.ensures.items row row' c.args.offer.answers.now t.0 fit (c.len.ensures ∙ s.answers.ok.0) refl in
    record {
      added = added_end e es es (slot_entries slots' row') (λ x m. m) is h.1;
      exactly = (c.if-not-has_room.ensures ∙ room_is e slots row (vec_len s.slots) (vec_len s.answers) s.slots.ok.0 s.filled fit, is);
    }
