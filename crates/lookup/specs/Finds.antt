-- Looking along a path from what may be there. Assumes nothing.
use Rattle.std.specs.Prelude.{List}
use Rattle.std.proofs.Math.Option.{Option}
use Rattle.values.specs.Values.{Name, Value, and_then, look}

-- what stands at a path in a value, if there is a value
abbrev pub looked : Option Value → List Name → Option Value
looked o p = and_then o (λ v. look v p)
