use Rattle.std.proofs.Common.{◌≡◌, length, drop}
use Rattle.trees.specs.Files.{split}
use Rattle.trees.specs.Paths.{shared}
use Rattle.trees.proofs.Names.{Pairs}
use Rattle.trees.proofs.Order.{ahead}
use Rattle.trees.proofs.paths.shared_names.Given as goal

-- the iterator gives the names in pairs; the names shared so far and those to come
abbrev pub invariant-loop-count : goal.invariant-loop-count
invariant-loop-count l =
    let n = length l.yielded in
    let old = split 47 l.before in
    let new = split 47 l.path in
    Pairs (goal.iterator-loop-count).next_gives l.initial.count-iterator old new × (ahead n (shared (drop n old) (drop n new)) ≡ shared old new)
