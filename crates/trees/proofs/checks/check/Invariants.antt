use Rattle.std.proofs.Common.{length}
use Rattle.trees.proofs.Checking.{Going}
use Rattle.trees.proofs.checks.check.Given as goal

-- what is left gives what the whole file gives
abbrev pub invariant-loop-rest : goal.invariant-loop-rest
invariant-loop-rest l = Going l.bytes l.left l.progress

abbrev pub decreases-loop-rest : goal.decreases-loop-rest
decreases-loop-rest l = length l.left
