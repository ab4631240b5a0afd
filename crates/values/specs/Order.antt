-- The order of names, and of any two lists of numbers. Assumes nothing.
use Rattle.std.specs.Prelude.{cond}
use Rattle.std.specs.declared.cmp.Ordering.TheVariants.{Less, Equal, Greater}
use Rattle.std.specs.declared.cmp.Ordering.{Ordering}
use Rattle.values.specs.Values.{Name, same_name, before}

-- the same, before or after
abbrev pub order : Name → Name → Ordering
order a b = cond (same_name a b) Equal (cond (before a b) Less Greater)
