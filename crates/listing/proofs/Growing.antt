-- How what is put in turn adds up. Assumes nothing.
use Rattle.std.proofs.Common.{◌≡◌, ℕ, ◌<◌, true, List, ◌++◌, length, is_err, Ok, Err, Result, subst, arith, length-append}
use Rattle.listing.specs.declared.sink.NoRoom.{NoRoom}
use Rattle.listing.specs.Puts.{Puts, Adds}

module _ {S : Type 0} {room : S → ℕ} {grows : S → List ℕ → S → Type 0} (adds : Adds room grows) where
  -- where a part has no room, the whole has none
  pub front_lacks : {s : S} (xs ys : List ℕ) → room s < length xs → room s < length (xs ++ ys)
  front_lacks xs ys l = omega (arith, length-append xs ys)

  pub back_lacks : {s t : S} (xs ys : List ℕ) → grows s xs t → room t < length ys → room s < length (xs ++ ys)
  back_lacks {s} {t} xs ys a l = omega (arith, length-append xs ys, adds.less s t xs a)

  -- the last of several
  pub last : {s t : S} (u : S) (xs ys zs : List ℕ) (r : Result (Unit {0}) NoRoom) → xs ++ ys ≡ zs → grows s xs t → Puts room grows t ys r u → Puts room grows s zs r u
  last {s} {t} u xs ys zs (Ok x) e a b = subst (λ l. grows s l u) e (adds.both s t u xs ys a b)
  last {s} {t} u xs ys zs (Err x) e a b = subst (λ l. room s < length l) e (back_lacks {s = s} {t = t} xs ys a b)

  -- the exit of a `?`
  pub stops : {s : S} (t : S) (xs : List ℕ) (r : Result (Unit {0}) NoRoom) → is_err r ≡ true → room s < length xs → Puts room grows s xs r t
  stops t xs (Ok x) e l = let z : ◌≡◌ {A = ℕ} 0 1 = cc in absurd (omega arith)
  stops t xs (Err x) e l = l
