-- What an order says of keys that climb. Assumes nothing.
use Rattle.std.proofs.Common.{◌≡◌, ℕ, ◌+◌, ◌-◌, ◌<◌, ◌≤◌, ◌⊎◌, true, false, Option, List, length, get_or, Ordering, Less, Equal, Greater, refl, sym, ap, ◌∙◌, inl, inr, ⊎_elim, arith}
use Rattle.std.specs.Cmp.{Agrees, IsTotalOrder}
use Rattle.std.proofs.lemmas.Bool.{false≢true}
use Rattle.std.specs.List.Sorted.{IsPartitionedBy, IsPartitionPoint}
use Rattle.std.specs.Ordering.{is_lt, is_some_and, ordering_reverse, partial_lt}
use Rattle.std.proofs.str.Laws.{order}
use Rattle.ordered.specs.Climbing.{Climbs, LessTo, MoreFrom, Stands}

pub less : (r : Ordering) → is_lt r ≡ true → r ≡ Less
less Less h = refl
less Equal h = cc
less Greater h = cc

-- the keys that are less than k stand before the others, so their number is the place of k
module _ {K : Type 0} {R : K → K → Ordering} (o : IsTotalOrder R) {C : K → K → Option Ordering} (agrees : Agrees C R) (xs : List K) (up : Climbs R xs) (k : K) where
  tests : (y : K) → partial_lt C y k ≡ is_lt (R y k)
  tests y = ap (is_some_and is_lt) (agrees y k)

  pub parted : IsPartitionedBy (λ y. partial_lt C y k) xs
  parted i j d le lt h =
      ⊎_elim
      (λ l. tests (get_or xs i d) ∙ ap is_lt (o.trans (get_or xs i d) (get_or xs j d) k (up i j d l lt) (less (R (get_or xs j d) k) (sym (tests (get_or xs j d)) ∙ h))))
      (λ ge. let e : j ≡ i = omega arith in ap (λ m. partial_lt C (get_or xs m d) k) (sym e) ∙ h)
      (order i j)

  pub stands_from : (i : ℕ) → IsPartitionPoint (λ y. partial_lt C y k ≡ true) (λ y. partial_lt C y k ≡ false) xs i → Stands R xs k i
  stands_from i at = (
    λ j d h. less (R (get_or xs j d) k) (sym (tests (get_or xs j d)) ∙ at.0 j d (omega arith) h),
    λ j d h lt less. false≢true (sym (at.1 j d h lt) ∙ tests (get_or xs j d) ∙ ap is_lt less),
  )

three : (a i : ℕ) → (a < i) ⊎ ((a ≡ i) ⊎ (i < a))
three a i = ⊎_elim inl (λ ge. ⊎_elim (λ lt. inr (inr lt)) (λ le. inr (inl (omega arith))) (order i a)) (order a i)

-- ys is xs with k put in at i
pub record PutIn {K : Type 0} (xs : List K) (i : ℕ) (k : K) (ys : List K) : Type 0 where
  pub within : i ≤ length xs
  pub longer : length ys ≡ length xs + 1
  pub here : (d : K) → get_or ys i d ≡ k
  pub low : (j : ℕ) (d : K) → j < i → get_or ys j d ≡ get_or xs j d
  pub high : (j : ℕ) (d : K) → i < j → get_or ys j d ≡ get_or xs (j - 1) d

module _ {K : Type 0} {R : K → K → Ordering} (o : IsTotalOrder R) (xs ys : List K) (i : ℕ) (k : K) (p : PutIn xs i k ys) (up : Climbs R xs) (less : LessTo R xs k i) (more : MoreFrom R xs k i) where
  both : {x y x' y' : K} → x ≡ x' → y ≡ y' → R x' y' ≡ Less → R x y ≡ Less
  both e f g = cc

  pub climbs_put : Climbs R ys
  climbs_put a b d lt end =
      let fits : b < length xs + 1 = omega (arith, p.longer) in
      ⊎_elim
      (λ al. ⊎_elim
      (λ bl. both (p.low a d al) (p.low b d bl) (up a b d lt (omega (arith, p.within))))
      (⊎_elim
      (λ be. both (p.low a d al) (ap (λ j. get_or ys j d) be ∙ p.here d) (less a d al))
      (λ bh. both (p.low a d al) (p.high b d bh) (up a (b - 1) d (omega arith) (omega arith))))
      (three b i))
      (⊎_elim
      (λ ae. let bh : i < b = omega arith in both (ap (λ j. get_or ys j d) ae ∙ p.here d) (p.high b d bh) (o.antisymm k (get_or xs (b - 1) d) ∙ ap ordering_reverse (more (b - 1) d (omega arith) (omega arith))))
      (λ ah. let bh : i < b = omega arith in both (p.high a d ah) (p.high b d bh) (up (a - 1) (b - 1) d (omega arith) (omega arith))))
      (three a i)
