use Rattle.std.proofs.Common.{◌≡◌, ℕ, ◌+◌, ◌-◌, ◌<◌, ◌≤◌, true, List, [], ◌∷◌, ◌++◌, map, length, take, get_or, length-append, sym, ap, ◌∙◌, subst, arith}
use Rattle.std.proofs.lemmas.Bool.Decides.{nat_tests}
use Rattle.std.proofs.lemmas.List.{take_at}
use Rattle.values.specs.declared.parts.Member.{Member}
use Rattle.values.specs.Memory.{values}
use Rattle.values.specs.Limits.{height, heights}
use Rattle.values.specs.Table.{under, members_of, known}
use Rattle.trees.specs.Lines.{lines_of}
use Rattle.trees.specs.Files.{written}
use Rattle.listing.specs.Puts.{Puts}
use Rattle.listing.specs.Pieces.{spellings, held, deeper}
use Rattle.listing.proofs.Growing.{stops}
use Rattle.listing.proofs.Loops.{more, lacks, all}
use Rattle.listing.proofs.Walks.{value_bytes, member_bytes, members_flat, path_below, leaf_line, node_lines, held_known, shown_under, never_none, member_known, member_height}
use Rattle.listing.proofs.walk.Walk.+put_members_put_value.Goals as goal

abbrev no_member : Member
no_member = record { name = 0; value = 0 }

-- a name more, taken off again
popped : (xs ys : List ℕ) (n : ℕ) → ys ≡ xs ++ n ∷ [] → take (length ys - 1) ys ≡ xs
popped xs ys n e = ap (λ l. take (length l - 1) l) e ∙ take_at xs (n ∷ []) (length (xs ++ n ∷ []) - 1) (omega (arith, length-append xs (n ∷ [])))

pub put_members-put_value-put-requires : goal.put_members-put_value-put-requires
put_members-put_value-put-requires g t c =
    let w = c.args.self.now in
    let T = values w.table.now in
    let ms = c.args.members.now in
    let i = c.loop-member.member-index in
    let m = get_or ms i no_member in
    let low = member_height T ms i no_member c.loop-member-test.true in
    let deep = ap (λ v. length v.path.items) c.loop-member.invariant.0 in
    let table = ap (λ v. v.table) c.loop-member.invariant.0 in
    let levels : length c.push.new.self.items + height (under T m.value) ≤ 16 = omega (arith, low, deep, c.push.ensures.len) in
    λ κs lives. (omega (arith, deep, c.push.ensures.len, c.requires.levels), (lives, (rw table (member_known T ms i no_member c.requires.known c.loop-member-test.true), rw table levels)))

pub put_members-returns-in_err-put-clause-puts : goal.put_members-returns-in_err-put-clause-puts
put_members-returns-in_err-put-clause-puts g t c =
    let w = c.args.self.now in
    let s = c.args.out.now in
    let T = values w.table.now in
    let ms = c.args.members.now in
    let p = spellings T w.path.items in
    let i = c.loop-member.member-index in
    let m = get_or ms i no_member in
    let path = path_below T c.loop-member.self.path.items c.push.new.self.items m.name c.push.ensures.items in
    let lacked = rw (ap (λ v. v.table) c.loop-member.invariant.0) at c.in_err-put.ensures.puts in
    stops g.met.S.Sink.adds {s = s} c.put_value-put.new.out (written (map (deeper p) (lines_of (members_of T ms)))) c.from_residual.result c.from_residual.ensures.0
    (subst (λ l. g.S.Sink.room s < length l) (members_flat T p ms)
    (lacks (member_bytes T p) ms g.met.S.Sink.adds {s = s} {t = c.loop-member.out} i no_member c.loop-member-test.true c.loop-member.invariant.1
    (rw (← ap (λ v. v.path.items) c.loop-member.invariant.0, ← path) lacked)))

pub put_members-loop-member-preserved : goal.put_members-loop-member-preserved
put_members-loop-member-preserved g t c =
    let w = c.args.self.now in
    let T = values w.table.now in
    let ms = c.args.members.now in
    let p = spellings T w.path.items in
    let i = c.loop-member.member-index in
    let m = get_or ms i no_member in
    let path = path_below T c.loop-member.self.path.items c.push.new.self.items m.name c.push.ensures.items in
    let put = rw (ap (λ v. v.table) c.loop-member.invariant.0) at c.in_ok-put.ensures.puts in
    let stays = c.put_value-put.ensures.stays in
    let table = ap (λ v. v.table) stays ∙ ap (λ v. v.table) c.loop-member.invariant.0 in
    let back = c.pop.ensures.rest ∙ popped c.loop-member.self.path.items c.put_value-put.new.self.path.items m.name (ap (λ v. v.path.items) stays ∙ c.push.ensures.items) ∙ ap (λ v. v.path.items) c.loop-member.invariant.0 in
    ((λ j. record { table = table j; path = record { items = back j } }), more (member_bytes T p) ms g.met.S.Sink.adds i no_member c.loop-member-test.true c.loop-member.invariant.1 (rw (← ap (λ v. v.path.items) c.loop-member.invariant.0, ← path) put))

pub put_members-returns-clause-puts : goal.put_members-returns-clause-puts
put_members-returns-clause-puts g t c =
    let w = c.args.self.now in
    let s = c.args.out.now in
    let T = values w.table.now in
    let ms = c.args.members.now in
    let p = spellings T w.path.items in
    subst (λ l. g.S.Sink.grows s l c.loop-member.out) (members_flat T p ms)
    (all (member_bytes T p) ms g.met.S.Sink.adds {s = s} {t = c.loop-member.out} c.loop-member.member-index c.loop-member-test.false c.loop-member.invariant.1)

pub put_value-unreachable-requires : goal.put_value-unreachable-requires
put_value-unreachable-requires g t c = never_none (values c.args.self.now.table.now) c.args.number c.requires.known c.in_default.ensures.is

pub put_value-put_members-requires : goal.put_value-put_members-requires
put_value-put_members-requires g t c =
    let T = values c.args.self.now.table.now in
    let a = c.in-Some.content in
    let ms = c.members_in-members.result.now in
    let is : ms ≡ held a = c.members_in-members.ensures in
    let some : 0 < length ms = grind (arith, nat_tests) in
    let here = shown_under T c.args.number a c.requires.known c.in-Some.ensures.is in
    let high = (node_lines T a (subst (λ l. 0 < length l) is some)).1 in
    λ κs lives. (omega arith, (lives, (subst (λ l. known T l ≡ true) (sym is) (held_known T a c.in-Some.ensures.known), omega (arith, ap (λ l. heights (members_of T l)) is, high, ap height here))))

pub put_value-returns-then-is_empty-clause-puts : goal.put_value-returns-then-is_empty-clause-puts
put_value-returns-then-is_empty-clause-puts g t c =
    let w = c.args.self.now in
    let T = values w.table.now in
    let p = spellings T w.path.items in
    let a = c.in-Some.content in
    let ms = c.members_in-members.result.now in
    let is : ms ≡ held a = c.members_in-members.ensures in
    let none : length ms ≡ 0 = grind (arith, nat_tests) in
    let here = shown_under T c.args.number a c.requires.known c.in-Some.ensures.is in
    subst (λ l. Puts g.S.Sink.room g.S.Sink.grows c.args.out.now l c.put_line.result c.put_line.new.out) (leaf_line T p a (subst (λ l. length l ≡ 0) is none) ∙ ap (value_bytes p) here) c.put_line.ensures

pub put_value-returns-else-is_empty-clause-puts : goal.put_value-returns-else-is_empty-clause-puts
put_value-returns-else-is_empty-clause-puts g t c =
    let w = c.args.self.now in
    let T = values w.table.now in
    let p = spellings T w.path.items in
    let a = c.in-Some.content in
    let ms = c.members_in-members.result.now in
    let is : ms ≡ held a = c.members_in-members.ensures in
    let some : 0 < length ms = grind (arith, nat_tests) in
    let here = shown_under T c.args.number a c.requires.known c.in-Some.ensures.is in
    let body = (node_lines T a (subst (λ l. 0 < length l) is some)).0 in
    subst (λ l. Puts g.S.Sink.room g.S.Sink.grows c.args.out.now l c.put_members.result c.put_members.new.out)
    (ap (λ l. written (map (deeper p) (lines_of (members_of T l)))) is ∙ ap (λ l. written (map (deeper p) l)) (sym body) ∙ ap (value_bytes p) here)
    c.put_members.ensures.puts
