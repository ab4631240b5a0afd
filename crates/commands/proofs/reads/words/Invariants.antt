use Rattle.std.proofs.Common.{◌≡◌, ◌++◌, map, length, vec_items}
use Rattle.commands.specs.Words.{words_of}
use Rattle.commands.proofs.reads.words.Given as goal

-- the words so far and those to come are all of them
abbrev pub invariant-loop-start : goal.invariant-loop-start
invariant-loop-start l = map (λ x. x.now) (vec_items l.words) ++ words_of l.left ≡ words_of l.line

abbrev pub decreases-loop-start : goal.decreases-loop-start
decreases-loop-start l = length l.left
