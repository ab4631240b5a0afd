-- Entering a whole value into the table, part by part. Assumes nothing.
use Rattle.std.specs.Prelude.{◌≡◌, ℕ, List, [], ◌∷◌, ◌++◌, Ok, Err, Result}
use Rattle.std.proofs.Math.Option.{Option, none, some}
use Rattle.values.specs.Values.{Value, text, truth, binding, Members, nil, cons, and_then, nth}
use Rattle.values.specs.Table.{Table, entered}
use Rattle.entering.specs.declared.answers.Full.{Full}

-- the values that a value is made of, each behind its own parts: of a binding, for each member its name and the parts of its value, and
-- then the binding itself
abbrev mutual
  pub parts : Value → List Value
  parts (text s) = text s ∷ []
  parts (truth b) = truth b ∷ []
  parts (binding ms) = member_parts ms ++ binding ms ∷ []

  pub member_parts : Members → List Value
  member_parts nil = []
  member_parts (cons n v ms) = text n ∷ parts v ++ member_parts ms

-- the table with values entered one after the other; none where one finds no room
abbrev pub enter_all : List Value → Table → Option Table
enter_all [] T = some T
enter_all (v ∷ vs) T = and_then (entered v T) (enter_all vs)

-- what entering a value with all its parts answers: its number in the table afterwards, or that the table is full and as it was
abbrev pub EntersAll : Value → Table → Result ℕ Full → Table → Type 0
EntersAll v T (Ok i) T' = (enter_all (parts v) T ≡ some T') × (nth T' i ≡ some v)
EntersAll v T (Err e) T' = (enter_all (parts v) T ≡ none) × (T' ≡ T)
