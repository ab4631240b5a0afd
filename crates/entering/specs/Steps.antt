-- What the steps of entering answer. Assumes nothing.
use Rattle.std.specs.Prelude.{◌≡◌, ℕ, ◌≤◌, true, List, [], ◌∷◌, ◌++◌, Ok, Err, Result}
use Rattle.std.proofs.Math.Option.{none, some}
use Rattle.std.specs.Borrow.{Bor}
use Rattle.values.specs.Values.{Name, Value, text, binding, Members, nil, cons, nth}
use Rattle.values.specs.Limits.{many, height, all_ordered, all_named}
use Rattle.values.specs.Table.{Table}
use Rattle.values.specs.declared.parts.Member.{Member}
use Rattle.trees.specs.Lines.{Leaf, leaf_value}
use Rattle.trees.specs.Files.{escape}
use Rattle.entering.specs.Entries.{parts, enter_all}
use Rattle.entering.specs.Levels.{leaf_bytes, Level, Placed, Single}
use Rattle.entering.specs.declared.answers.Full.{Full}

-- a table has only grown
pub record Extends (T T' : Table) : Type 0 where
  pub more : List Value
  pub is : T' ≡ T ++ more

-- values are entered one after the other, the last of them under the number; or one finds no room
abbrev pub EntersEach : List Value → Value → Table → Result ℕ Full → Table → Type 0
EntersEach vs v T (Ok i) T' = (enter_all vs T ≡ some T') × (nth T' i ≡ some v)
EntersEach vs v T (Err e) T' = (enter_all vs T ≡ none) × Extends T T'

-- the text of a content
abbrev pub EntersContent : List ℕ → Table → Result ℕ Full → Table → Type 0
EntersContent bytes T r T' = (s : List ℕ) → bytes ≡ escape s → EntersEach (text s ∷ []) (text s) T r T'

-- the value at the end of a line
abbrev pub EntersLeaf : List ℕ → Table → Result ℕ Full → Table → Type 0
EntersLeaf bytes T r T' = (c : Leaf) → bytes ≡ leaf_bytes c → EntersEach (parts (leaf_value c)) (leaf_value c) T r T'

-- the numbers of members stand for these in the table
abbrev pub Stands : Table → List Member → Members → Type 0
Stands T [] nil = Unit {0}
Stands T [] (cons n v ms) = ⊥
Stands T (m ∷ l) nil = ⊥
Stands T (m ∷ l) (cons n v ms) = (nth T m.name ≡ some (text n)) × (nth T m.value ≡ some v) × Stands T l ms

-- members that can be entered as a binding
pub record Ready (T : Table) (l : List Member) (ms : Members) : Type 0 where
  pub stands : Stands T l ms
  pub are_ordered : all_ordered ms ≡ true
  pub are_named : all_named ms ≡ true
  pub few : many ms ≤ 64
  pub low : height (binding ms) ≤ 16

abbrev pub HasMembers : Table → List Member → Type 0
HasMembers T l = (ms : Members) × Ready T l ms

abbrev pub EntersMembers : List Member → Table → Result ℕ Full → Table → Type 0
EntersMembers l T r T' = (ms : Members) → Stands T l ms → EntersEach (binding ms ∷ []) (binding ms) T r T'

-- a value with its parts, and what stands behind its lines
abbrev pub ValueEntered : Value → List ℕ → Table → Result (ℕ × Bor (List ℕ)) Full → Table → Type 0
ValueEntered v after T (Ok e) T' = (enter_all (parts v) T ≡ some T') × (nth T' e.0 ≡ some v) × (e.1.now ≡ after)
ValueEntered v after T (Err e) T' = (enter_all (parts v) T ≡ none) × Extends T T'

-- a value at the end of the first line
abbrev pub EntersLine : List ℕ → Table → Result (ℕ × Bor (List ℕ)) Full → Table → Type 0
EntersLine bytes T r T' = (c : Leaf) (after : List ℕ) → bytes ≡ leaf_bytes c ++ 10 ∷ after → ValueEntered (leaf_value c) after T r T'

-- a value at a path
abbrev pub EntersValue : List ℕ → List ℕ → ℕ → Table → Result (ℕ × Bor (List ℕ)) Full → Table → Type 0
EntersValue path bytes levels T r T' = (v : Value) (after : List ℕ) → Placed path bytes levels v after → ValueEntered v after T r T'

-- a binding by the lines of its members
abbrev pub EntersLevel : List ℕ → List ℕ → ℕ → Table → Result (ℕ × Bor (List ℕ)) Full → Table → Type 0
EntersLevel prefix bytes levels T r T' = (ms : Members) (after : List ℕ) → Level prefix bytes levels ms after → ValueEntered (binding ms) after T r T'

-- a member with its parts, and what stands behind its lines
abbrev pub MemberEntered : Name → Value → List ℕ → Table → Result (Member × Bor (List ℕ)) Full → Table → Type 0
MemberEntered n v after T (Ok e) T' = (enter_all (text n ∷ parts v) T ≡ some T') × (nth T' e.0.name ≡ some (text n)) × (nth T' e.0.value ≡ some v) × (e.1.now ≡ after)
MemberEntered n v after T (Err e) T' = (enter_all (text n ∷ parts v) T ≡ none) × Extends T T'

abbrev pub EntersMember : List ℕ → List ℕ → ℕ → Table → Result (Member × Bor (List ℕ)) Full → Table → Type 0
EntersMember prefix bytes levels T r T' = (n : Name) (v : Value) (after : List ℕ) → Single prefix bytes levels n v after → MemberEntered n v after T r T'
