-- A binding of known members is proper if its names, its size and its height are. Assumes nothing.
use Rattle.std.proofs.Common.{◌≡◌, ℕ, ◌<◌, ◌≤◌, true, ◌&&◌, leb, List, [], ◌∷◌, length, refl, ◌∙◌, arith}
use Rattle.std.proofs.lemmas.Bool.{and_parts, and_from, le-leb, leb-true}
use Rattle.values.specs.Values.{Value, binding}
use Rattle.values.specs.Limits.{fit, many, height, small, all_small, first_after, ordered, all_ordered, named, all_named, proper}
use Rattle.values.specs.Table.{under, spelt, known, well_named, next_after, members_of}
use Rattle.values.specs.declared.parts.Member.{Member}
use Rattle.values.proofs.Meanings.{knows}
use Rattle.values.proofs.Changes.{many_of}

-- a proper value, taken apart
record Rules (v : Value) : Type 0 where
  low : height v ≤ 16
  small : small v ≡ true
  ordered : ordered v ≡ true
  named : named v ≡ true

rules : (v : Value) → proper v ≡ true → Rules v
rules v e =
    let a = and_parts (leb (height v) 16) (small v && (ordered v && named v)) e in
    let b = and_parts (small v) (ordered v && named v) a.1 in
    let c = and_parts (ordered v) (named v) b.1 in
    record { low = leb-true (height v) 16 a.0; small = b.0; ordered = c.0; named = c.1 }

pub low_from_proper : (v : Value) → proper v ≡ true → height v ≤ 16
low_from_proper v e = (rules v e).low

-- all values of a table are proper
abbrev pub AllProper : List Value → Type 0
AllProper T = (i : ℕ) → i < length T → proper (under T i) ≡ true

next_first : (T : List Value) (n : List ℕ) (ms : List Member) → first_after n (members_of T ms) ≡ next_after T n ms
next_first T n [] = refl
next_first T n (m ∷ ms) = refl

module _ (T : List Value) (all : AllProper T) where
  members_small : (ms : List Member) → known T ms ≡ true → all_small (members_of T ms) ≡ true
  members_small [] k = refl
  members_small (m ∷ ms) k =
      let a = knows T m ms k in
      and_from (small (under T m.value)) (all_small (members_of T ms)) (rules (under T m.value) (all m.value a.value)).small (members_small ms a.rest)

  members_ordered : (ms : List Member) → known T ms ≡ true → well_named T ms ≡ true → all_ordered (members_of T ms) ≡ true
  members_ordered [] k w = refl
  members_ordered (m ∷ ms) k w =
      let a = knows T m ms k in
      let n = spelt (under T m.name) in
      let b = and_parts (fit n) (next_after T n ms && well_named T ms) w in
      let c = and_parts (next_after T n ms) (well_named T ms) b.1 in
      and_from (ordered (under T m.value)) (first_after n (members_of T ms) && all_ordered (members_of T ms)) (rules (under T m.value) (all m.value a.value)).ordered
      (and_from (first_after n (members_of T ms)) (all_ordered (members_of T ms)) (next_first T n ms ∙ c.0) (members_ordered ms a.rest c.1))

  members_named : (ms : List Member) → known T ms ≡ true → well_named T ms ≡ true → all_named (members_of T ms) ≡ true
  members_named [] k w = refl
  members_named (m ∷ ms) k w =
      let a = knows T m ms k in
      let n = spelt (under T m.name) in
      let b = and_parts (fit n) (next_after T n ms && well_named T ms) w in
      let c = and_parts (next_after T n ms) (well_named T ms) b.1 in
      and_from (fit n) (named (under T m.value) && all_named (members_of T ms)) b.0
      (and_from (named (under T m.value)) (all_named (members_of T ms)) (rules (under T m.value) (all m.value a.value)).named (members_named ms a.rest c.1))

  pub proper_binding : (ms : List Member) → known T ms ≡ true → well_named T ms ≡ true → length ms ≤ 64 → height (binding (members_of T ms)) ≤ 16 → proper (binding (members_of T ms)) ≡ true
  proper_binding ms k w l h =
      let v = binding (members_of T ms) in
      let count = many_of T ms in
      and_from (leb (height v) 16) (small v && (ordered v && named v)) (le-leb (height v) 16 h)
      (and_from (small v) (ordered v && named v) (and_from (leb (many (members_of T ms)) 64) (all_small (members_of T ms)) (le-leb (many (members_of T ms)) 64 (omega arith)) (members_small ms k))
      (and_from (ordered v) (named v) (members_ordered ms k w) (members_named ms k w)))
