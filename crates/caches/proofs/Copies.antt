-- Lists copied one by one. Assumes nothing.
use Rattle.std.proofs.Common.{◌≡◌, ℕ, ◌+◌, ◌<◌, ◌≤◌, List, [], ◌∷◌, ◌++◌, length, take, Some, None, Option, sym, ap, ◌∙◌, ⊎_elim, arith}
use Rattle.std.specs.List.{slice_get}
use Rattle.std.proofs.lemmas.List.{take_more, take_all}
use Rattle.std.proofs.lemmas.Option.{slice_get_within, get_or_from_slice_get, slice_get_cases, none-some}

none_past : {X : Type 0} (xs : List X) (k : ℕ) → slice_get xs k ≡ None → length xs ≤ k
none_past xs k h = ⊎_elim (λ w. absurd (none-some w.0 (sym h ∙ w.2))) (λ past. past.0) (slice_get_cases xs k).1

module _ {X : Type 0} (ys xs : List X) where
  pub copied_none : ys ≡ [] → (length ys ≤ length xs) × (ys ≡ take (length ys) xs)
  copied_none e = (simp e (omega arith), e ∙ sym (ap (λ l. take (length l) xs) e))

  -- ys begins xs, and r is the next
  module _ (n : ℕ) (r : Option X) (at : n ≡ length ys) (read : r ≡ slice_get xs n) where
    next : slice_get xs (length ys) ≡ r
    next = ap (slice_get xs) (sym at) ∙ sym read

    pub more_left : (x : X) → r ≡ Some x → length ys < length xs
    more_left x is = slice_get_within xs (length ys) x (next ∙ is)

    pub copied_more : (x : X) → r ≡ Some x → ys ≡ take (length ys) xs → ys ++ x ∷ [] ≡ take (length ys + 1) xs
    copied_more x is e =
        ap (λ l. l ++ x ∷ []) e ∙ ap (λ y. take (length ys) xs ++ y ∷ []) (sym (get_or_from_slice_get xs (length ys) x x (next ∙ is))) ∙ sym (take_more xs (length ys) x (more_left x is))

    pub copied_all : r ≡ None → ys ≡ take (length ys) xs → ys ≡ xs
    copied_all is e = e ∙ take_all (length ys) xs (none_past xs (length ys) (next ∙ is))

-- ys begins xs, and is as long as xs may be
pub copied_full : {X : Type 0} (ys xs : List X) → 64 ≤ length ys → length xs ≤ 64 → ys ≡ take (length ys) xs → ys ≡ xs
copied_full ys xs full few e = e ∙ take_all (length ys) xs (omega (arith, full, few))
