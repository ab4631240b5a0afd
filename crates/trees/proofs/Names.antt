-- The parts between separators as an iterator gives them. Assumes nothing.
use Rattle.std.proofs.Common.{◌≡◌, ℕ, zero, suc, ◌+◌, ◌<◌, Some, None, Option as Answer, Bor, Bool, true, false, cond, ◌&&◌, eqb, List, [], ◌∷◌, length, get_or, drop, sym, refl, ap, ◌∙◌, subst, arith}
use mathlib.Core.Option.{none}
use Rattle.std.specs.Bool.{MatchBool}
use Rattle.std.proofs.lemmas.Bool.{and_right}
use Rattle.std.specs.List.{AllWithin, HoldsAt, slice_split, onto_first, zip, enumerate_from}
use Rattle.std.specs.Iterator.{Yields}
use Rattle.std.proofs.lemmas.Iterator.{YieldsList}
use Rattle.std.proofs.lemmas.Iterator.Consumers.{YieldsList-turn, YieldsList-end}
use Rattle.values.specs.Values.{Name}
use Rattle.values.specs.Limits.{fit}
use Rattle.trees.specs.Files.{push, split, all_fit}
use Rattle.trees.specs.Paths.{shared}

pushed : (b : ℕ) (ps : List (List ℕ)) → onto_first b ps ≡ push b ps
pushed b [] = refl
pushed b (p ∷ ps) = refl

-- the library's parts are ours
pub split_is : (z : ℕ) (bs : List ℕ) → slice_split (λ b. eqb b z) bs ≡ split z bs
split_is z [] = refl
split_is z (b ∷ bs) = ap (λ ps. cond (eqb b z) ([] ∷ ps) (onto_first b ps)) (split_is z bs) ∙ ap (λ ps. cond (eqb b z) ([] ∷ split z bs) ps) (pushed b (split z bs))

-- all of them are fit, or one is not
pub fit_is : (r : Bool) (ns : List Name) → MatchBool r (AllWithin (λ n. fit n ≡ true) ns 0 (length ns)) ((k : ℕ) × (k < length ns) × HoldsAt (λ n. fit n ≡ false) ns k) → r ≡ all_fit ns
fit_is true [] h = refl
fit_is true (n ∷ ns) h = fit_is true ns (λ k d p q. h (suc k) d (omega arith) (omega arith)) ∙ ap (λ b. b && all_fit ns) (sym (h 0 n (omega arith) (omega arith)))
fit_is false [] (k, l, h) = absurd (omega arith)
fit_is false (n ∷ ns) (zero, l, h) = ap (λ b. b && all_fit ns) (sym (h n))
fit_is false (n ∷ ns) (suc k, l, h) = sym (and_right (fit n) (all_fit ns) (sym (fit_is false ns (k, omega arith, λ d. h d))))

-- two names at the same place, and those behind them
pair_at : (k : ℕ) (ms ns : List Name) (i : ℕ) (p : ℕ × (Name × Name)) → i < length (enumerate_from k (zip ms ns)) → p ≡ get_or (enumerate_from k (zip ms ns)) i p
    → (p.0 ≡ k + i) × (drop i ms ≡ p.1.0 ∷ drop (suc i) ms) × (drop i ns ≡ p.1.1 ∷ drop (suc i) ns)
pair_at k [] ns i p l e = absurd (omega arith)
pair_at k (m ∷ ms) [] i p l e = absurd (omega arith)
pair_at k (m ∷ ms) (n ∷ ns) zero p l e = (ap (λ q. q.0) e ∙ omega arith, ap (λ q. q.1.0 ∷ ms) (sym e), ap (λ q. q.1.1 ∷ ns) (sym e))
pair_at k (m ∷ ms) (n ∷ ns) (suc i) p l e = let h = pair_at (k + 1) ms ns i p (omega arith) e in (h.0 ∙ omega arith, h.1, h.2)

-- past the last pair one of the paths has ended
past_pairs : (k : ℕ) (ms ns : List Name) (i : ℕ) → i ≡ length (enumerate_from k (zip ms ns)) → shared (drop i ms) (drop i ns) ≡ none
past_pairs k [] ns zero e = refl
past_pairs k [] ns (suc i) e = absurd (omega arith)
past_pairs k (m ∷ ms) [] zero e = refl
past_pairs k (m ∷ ms) [] (suc i) e = absurd (omega arith)
past_pairs k (m ∷ ms) (n ∷ ns) zero e = absurd (omega arith)
past_pairs k (m ∷ ms) (n ∷ ns) (suc i) e = past_pairs (k + 1) ms ns i (omega arith)

-- an iterator over the names of two paths, in pairs with their numbers
abbrev pub seen : ℕ × (Bor Name × Bor Name) → ℕ × (Name × Name)
seen p = (p.0, (p.1.0.now, p.1.1.now))

abbrev pub Pairs : {S : Type 0} → (S → Answer (ℕ × (Bor Name × Bor Name)) → S → Type 0) → S → List Name → List Name → Type 0
Pairs steps s ms ns = YieldsList steps seen s (enumerate_from 0 (zip ms ns))

pub parted : {S : Type 0} {steps : S → Answer (ℕ × (Bor Name × Bor Name)) → S → Type 0} {s : S} (p q : List ℕ) → Pairs steps s (slice_split (λ b. eqb b 47) p) (slice_split (λ b. eqb b 47) q) → Pairs steps s (split 47 p) (split 47 q)
parted {S} {steps} {s} p q road = subst (λ ns. Pairs steps s (split 47 p) ns) (split_is 47 q) (subst (λ ms. Pairs steps s ms (slice_split (λ b. eqb b 47) q)) (split_is 47 p) road)

module _ {S : Type 0} {steps : S → Answer (ℕ × (Bor Name × Bor Name)) → S → Type 0} {s t : S} (u : S) (ms ns : List Name) (xs : List (ℕ × (Bor Name × Bor Name))) (r : Answer (ℕ × (Bor Name × Bor Name))) where
  -- one turn, by what it meets
  pub turn : Pairs steps s ms ns → Yields steps s xs t → (x : ℕ × (Bor Name × Bor Name)) → r ≡ Some x → steps t r u
      → (x.0 ≡ length xs) × (shared (drop (length xs) ms) (drop (length xs) ns) ≡ shared (x.1.0.now ∷ drop (suc (length xs)) ms) (x.1.1.now ∷ drop (suc (length xs)) ns))
  turn road y x e n =
      let h = YieldsList-turn road xs t y r u x e n in
      let p = pair_at 0 ms ns (length xs) (seen x) h.0 h.1 in
      (p.0 ∙ omega arith, (λ j. shared (p.1 j) (p.2 j)))

  pub past : Pairs steps s ms ns → Yields steps s xs t → r ≡ None → steps t r u → shared (drop (length xs) ms) (drop (length xs) ns) ≡ none
  past road y e n = past_pairs 0 ms ns (length xs) (YieldsList-end road xs t y r u e n).1
