-- The numbers of what is not shown. Assumes nothing.
use Rattle.std.specs.Prelude.{ℕ}
use Rattle.trees.specs.Numbers.{number as tree_number}
use Rattle.checker.specs.declared.answers.Unshown.{Unshown}
use Rattle.checker.specs.declared.answers.Unshown.TheVariants.{Refused, Full}

-- a refused file has its own; the table is full under 31
abbrev pub number : Unshown → ℕ
number (Refused e) = tree_number e.refusal
number Full = 31
