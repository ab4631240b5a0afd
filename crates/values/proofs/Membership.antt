-- Members one after the other: how high they are, and which has a name. Assumes nothing.
use Rattle.std.proofs.Common.{◌≡◌, ℕ, max, Bool, true, false, cond, Some, List, [], ◌∷◌, map, refl, arith}
use mathlib.Core.Option.{some}
use Rattle.std.specs.List.{fold, reduce, find}
use Rattle.std.specs.Option.{unwrap_or, option_map}
use Rattle.values.specs.Values.{Value, Name, same_name, member}
use Rattle.values.specs.Limits.{height, heights}
use Rattle.values.specs.Table.{under, spelt, known, members_of, Numbered}
use Rattle.values.specs.declared.parts.Member.{Member}
use Rattle.values.proofs.Sameness.{nth_under}
use Rattle.values.proofs.Meanings.{knows}

-- what a read past the end gives
abbrev pub zero_member : Member
zero_member = record { name = 0; value = 0 }

module _ (T : List Value) where
  abbrev pub height_of : Member → ℕ
  height_of m = height (under T m.value)

  highest : (a : ℕ) (ms : List Member) → fold max a (map height_of ms) ≡ max a (heights (members_of T ms))
  highest a [] = omega arith
  highest a (m ∷ ms) = omega (arith, highest (max a (height_of m)) ms)

  -- the highest of the heights
  pub heights_are : (ms : List Member) → unwrap_or (reduce max (map height_of ms)) 0 ≡ heights (members_of T ms)
  heights_are [] = refl
  heights_are (m ∷ ms) = highest (height_of m) ms

  -- the first member that has a name
  abbrev pub has_name : Name → Member → Bool
  has_name name m = same_name name (spelt (under T m.name))

  pub first_named : (name : Name) (ms : List Member) → known T ms ≡ true → Numbered T (member name (members_of T ms)) (option_map (λ (m : Member). m.value) (find (has_name name) ms))
  first_named name [] k = refl
  first_named name (m ∷ ms) k = go (has_name name m) (first_named name ms (knows T m ms k).rest)
    where
      go : (b : Bool) → Numbered T (member name (members_of T ms)) (option_map (λ (m : Member). m.value) (find (has_name name) ms)) → Numbered T (cond b (some (under T m.value)) (member name (members_of T ms))) (option_map (λ (m : Member). m.value) (cond b (Some m) (find (has_name name) ms)))
      go true r = (nth_under T m.value (knows T m ms k).value, (knows T m ms k).value)
      go false r = r
