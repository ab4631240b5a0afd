-- The buffer is long enough for any listing of an accepted file.
use Rattle.std.proofs.Common.{arith}
use Rattle.checker.proofs.desk.Checker.new.Goals as goal

pub invariant_of-result : goal.invariant_of-result
invariant_of-result c = omega (arith, c.in_ok-buffer.ensures.len)
