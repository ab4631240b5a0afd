-- What one key says of where another belongs among keys that climb. Assumes nothing.
use Rattle.std.proofs.Common.{◌≡◌, ℕ, ◌+◌, ◌<◌, List, length, get_or, Ordering, Less, Equal, Greater, sym, ap, ◌∙◌, ⊎_elim, arith}
use Rattle.std.specs.Cmp.{IsTotalOrder, alike_right}
use Rattle.std.specs.Ordering.{ordering_reverse}
use Rattle.std.proofs.str.Laws.{order}
use Rattle.std.proofs.lemmas.List.{get_or_read}
use Rattle.ordered.specs.Climbing.{Climbs, LessTo, MoreFrom, Stands}

-- the key at m, if it is less, if it is more
module _ {K : Type 0} {R : K → K → Ordering} (o : IsTotalOrder R) (xs : List K) (up : Climbs R xs) (k x : K) (m : ℕ) (within : m < length xs) (read : x ≡ get_or xs m x) where
  at_m : (d : K) → get_or xs m d ≡ x
  at_m d = sym (get_or_read xs m x within read d)

  pub less_to : Less ≡ R x k → LessTo R xs k (m + 1)
  less_to r j d h =
      let here : R (get_or xs m d) k ≡ Less = ap (λ y. R y k) (at_m d) ∙ sym r in
      ⊎_elim (λ lt. o.trans (get_or xs j d) (get_or xs m d) k (up j m d lt within) here)
      (λ ge. let e : m ≡ j = omega arith in ap (λ i. R (get_or xs i d) k) (sym e) ∙ here)
      (order j m)

  pub more_from : Greater ≡ R x k → MoreFrom R xs k m
  more_from r j d h lt =
      let here : R (get_or xs m d) k ≡ Greater = ap (λ y. R y k) (at_m d) ∙ sym r in
      let back : R k (get_or xs m d) ≡ Less = o.antisymm k (get_or xs m d) ∙ ap ordering_reverse here in
      ⊎_elim (λ l. o.antisymm (get_or xs j d) k ∙ ap ordering_reverse (o.trans k (get_or xs m d) (get_or xs j d) back (up m j d l lt)))
      (λ ge. let e : m ≡ j = omega arith in ap (λ i. R (get_or xs i d) k) (sym e) ∙ here)
      (order m j)

-- the keys before one that is equal to k are less than k, and those from it on are not
pub stands_at : {K : Type 0} {R : K → K → Ordering} (o : IsTotalOrder R) (xs : List K) → Climbs R xs → (k : K) (m : ℕ) → m < length xs → ((d : K) → R (get_or xs m d) k ≡ Equal) → Stands R xs k m
stands_at {R = R} o xs up k m within here = (
  λ j d h. sym (alike_right o (get_or xs m d) k (get_or xs j d) (here d)) ∙ up j m d h within,
  λ j d h lt less. ⊎_elim
      (λ l. let e : R (get_or xs m d) (get_or xs j d) ≡ Less = up m j d l lt in
      let f : R (get_or xs m d) (get_or xs j d) ≡ Greater = o.congr (get_or xs m d) k (get_or xs j d) (here d) ∙ o.antisymm k (get_or xs j d) ∙ ap ordering_reverse less in
      let z : ◌≡◌ {A = ℕ} 0 1 = cc in omega arith)
      (λ ge. let e : m ≡ j = omega arith in let f : R (get_or xs j d) k ≡ Equal = ap (λ i. R (get_or xs i d) k) (sym e) ∙ here d in let z : ◌≡◌ {A = ℕ} 0 1 = cc in omega arith)
      (order m j),
)
