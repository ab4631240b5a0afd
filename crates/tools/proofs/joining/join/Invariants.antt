use Rattle.std.proofs.Common.{◌≡◌, ◌≤◌, [], length}
use Rattle.trees.specs.Files.{split}
use Rattle.tools.specs.Plans.{joining}
use Rattle.tools.specs.Calls.{answers_of}
use Rattle.tools.proofs.joining.join.Given as goal

-- what is left of paths and answers gives what all of them give
abbrev pub invariant-loop-answer : goal.invariant-loop-answer
invariant-loop-answer l = (joining l.out.items (split 32 l.left) (answers_of l.given) ≡ joining [] (split 32 l.command.bytes.now) (answers_of l.answers)) × (length l.left ≤ length l.command.bytes.now)

abbrev pub decreases-loop-answer : goal.decreases-loop-answer
decreases-loop-answer l = length l.left
