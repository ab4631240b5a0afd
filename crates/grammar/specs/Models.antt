-- What a model's bytes are read as. Assumes nothing.
use Rattle.std.specs.Prelude.{ℕ, Bool, cond, List, length, nat_le}
use Rattle.std.proofs.Math.Option.{Option, none, some}
use Rattle.values.specs.Values.{Name}
use Rattle.grammar.specs.Readers.{Outcome, ok, no}
use Rattle.grammar.specs.Syntax.{Source}
use Rattle.grammar.specs.Grammar.{reads}
use Rattle.grammar.specs.Checks.{Flaw, flaws, first_flaw}

-- refused by a number at a place, or the functions of the model, in order
pub data Reading : Type 0 where
  refused : ℕ → ℕ → Reading
  accepted : List Source → Reading

-- functions without a flaw are accepted
abbrev pub unflawed : List Source → Option Flaw → Reading
unflawed fs none = accepted fs
unflawed fs (some x) = refused x.number x.at

-- functions that were read from so many bytes are looked through for flaws
abbrev pub checked : (Name → Bool) → ℕ → Outcome (List Source) → Reading
checked known n (ok fs s) = unflawed fs (first_flaw (flaws known n fs))
checked known n (no m p) = refused m p

-- 1 goes before 2, 3 and 4, and these before 5, 6 and 7; `known` says which tools there are
unfoldable pub read_model : (Name → Bool) → List ℕ → Reading
read_model known bytes = cond (nat_le (length bytes) 8192) (checked known (length bytes) (reads bytes)) (refused 1 0)
