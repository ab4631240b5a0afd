-- Cutting at the first separator, as a loop does it, and what it means for the parts. Assumes nothing.
use Rattle.std.proofs.Common.{◌≡◌, ℕ, zero, suc, ◌+◌, ◌-◌, ◌<◌, ◌≤◌, true, not, eqb, List, [], ◌∷◌, ◌++◌, length, take, drop, Some, None, Option as Answer, sym, refl, ap, ◌∙◌, append-nil, arith, Bor}
use Rattle.std.proofs.lemmas.Bool.{and_from, ne_eqb, not_from_false}
use Rattle.std.specs.List.{AllWithin, HoldsAt}
use Rattle.std.specs.Option.{MatchOption}
use Rattle.std.proofs.lemmas.List.{take-append-drop, take_all, take_rest, drop_more, length-append}
use Rattle.trees.specs.Cuts.{free, behind}
use Rattle.trees.specs.Files.{split}
use Rattle.trees.proofs.Splits.{split_front, split_free}

-- no separator in front of where the first was found
free_front : (z : ℕ) (bs : List ℕ) (i : ℕ) → i ≤ length bs → AllWithin (λ b. b ≡ z → ⊥) bs 0 i → free z (take i bs) ≡ true
free_front z bs zero l h = refl
free_front z [] (suc i) l h = absurd (omega arith)
free_front z (b ∷ bs) (suc i) l h = and_from (not (eqb b z)) (free z (take i bs)) (not_from_false (eqb b z) (ne_eqb b z (h 0 b (omega arith) (omega arith)))) (free_front z bs i (omega arith) (λ k d p q. h (suc k) d (omega arith) (omega arith)))

-- where the first separator stands, if there is one
abbrev pub First : ℕ → List ℕ → Answer ℕ → Type 0
First z bs o = MatchOption o (AllWithin (λ b. b ≡ z → ⊥) bs 0 (length bs)) (λ i. (i < length bs) × HoldsAt (λ b. b ≡ z) bs i × AllWithin (λ b. b ≡ z → ⊥) bs 0 i)

pub cut_here : (z : ℕ) (bs : List ℕ) (i : ℕ) → First z bs (Some i) → (bs ≡ take i bs ++ z ∷ take (length bs - (i + 1)) (drop (i + 1) bs)) × (free z (take i bs) ≡ true)
cut_here z bs i (l, e, h) = (
  sym (take-append-drop i bs) ∙ ap (λ t. take i bs ++ t) (drop_more bs i 0 l ∙ (λ k. e 0 k ∷ sym (take_rest bs (i + 1)) k)),
  free_front z bs i (omega arith) h,
)

pub cut_nowhere : (z : ℕ) (bs : List ℕ) → First z bs None → (bs ≡ bs ++ []) × (free z bs ≡ true)
cut_nowhere z bs h = (sym (append-nil bs), ap (free z) (sym (take_all (length bs) bs (omega arith))) ∙ free_front z bs (length bs) (omega arith) h)

-- the parts that are to come
abbrev pub rest_parts : ℕ → Answer (Bor (List ℕ)) → List (List ℕ)
rest_parts z None = []
rest_parts z (Some s) = split z s.now

-- what was cut is the first of the parts
pub cut_splits : (z : ℕ) (bs : List ℕ) (first : List ℕ) (rest : Answer (Bor (List ℕ))) → bs ≡ first ++ behind z rest → free z first ≡ true → split z bs ≡ first ∷ rest_parts z rest
cut_splits z bs first None e f = ap (split z) (e ∙ append-nil first) ∙ split_free z first f
cut_splits z bs first (Some s) e f = ap (split z) e ∙ split_front z first s.now f

pub cut_shorter : (z : ℕ) (bs first : List ℕ) (s : Bor (List ℕ)) → bs ≡ first ++ behind z (Some s) → length bs ≡ length first + length s.now + 1
cut_shorter z bs first s e = let l = ap length e ∙ length-append first (z ∷ s.now) in omega arith
