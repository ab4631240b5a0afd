use Rattle.std.proofs.Common.{◌-◌, length}
use Rattle.scanner.proofs.Quotes.{Left}
use Rattle.scanner.proofs.runs.text_len.Given as goal

-- what is left gives what the whole gave
abbrev pub invariant-loop-n : goal.invariant-loop-n
invariant-loop-n l = Left l.bytes l.i

abbrev pub decreases-loop-n : goal.decreases-loop-n
decreases-loop-n l = length l.bytes - l.i
