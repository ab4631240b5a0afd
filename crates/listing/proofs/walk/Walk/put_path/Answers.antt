use Rattle.std.proofs.Common.{◌≡◌, ℕ, ◌-◌, ◌<◌, List, ◌++◌, length, get_or, take, drop, sym, ap, ◌∙◌, arith, rules}
use Rattle.std.proofs.lemmas.Slice.{first_rest}
use Rattle.values.specs.Values.{Value}
use Rattle.values.specs.Memory.{values}
use Rattle.trees.specs.Files.{joined}
use Rattle.listing.specs.Pieces.{spelling, spellings, steps}
use Rattle.listing.proofs.Growing.{last}
use Rattle.listing.proofs.Loops.{steps_joined}
use Rattle.listing.proofs.walk.Walk.put_path.Goals as goal

-- the first name, and the others behind it
parts : (T : List Value) (ns : List ℕ) → 0 < length ns → spelling T (get_or ns 0 0) ++ steps (spellings T (take (length ns - 1) (drop 1 ns))) ≡ joined 47 (spellings T ns)
parts T ns h =
    steps_joined (spelling T (get_or ns 0 0)) (spellings T (take (length ns - 1) (drop 1 ns)))
    ∙ ap (λ l. joined 47 (spellings T l)) (sym (first_rest ns 0 h))

pub returns-in_ok-put-in-len1-up : goal.returns-in_ok-put-in-len1-up
returns-in_ok-put-in-len1-up g c =
    let T = values c.args.self.now.table.now in
    let ns = c.as_slice.result.now in
    let rest = steps (spellings T (take (length ns - 1) (drop 1 ns))) in
    last g.met.S.Sink.adds {s = c.args.out.now} {t = c.put.new.self} c.put_steps.new.out _ rest (joined 47 (spellings T c.args.self.now.path.items)) c.put_steps.result
    (ap (λ n. n ++ rest) (search (c.text.ensures, rules)) ∙ parts T ns (omega (arith, c.in-len1-up.len_at_least)) ∙ ap (λ l. joined 47 (spellings T l)) c.as_slice.ensures.value) c.in_ok-put-in-len1-up.ensures c.put_steps.ensures
