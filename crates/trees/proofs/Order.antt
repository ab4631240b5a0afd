-- Paths taken apart and compared name by name. Assumes nothing.
use Rattle.std.proofs.Common.{◌≡◌, ℕ, suc, ◌+◌, Bool, true, false, cond, ◌&&◌, eqb, List, [], ◌∷◌, ◌++◌, length, Some, Option as Answer, Ordering, Less, Equal, Greater, sym, refl, ap, ◌∙◌, subst, arith, Bor}
use mathlib.Core.Option.{Option, none, some}
use Rattle.std.proofs.lemmas.Bool.Decides.{nat_tests}
use Rattle.values.specs.Values.{Name, same_name, before, mapped}
use Rattle.values.specs.Order.{order}
use Rattle.trees.specs.declared.parts.Parts.{Parts}
use Rattle.trees.specs.Cuts.{Cuts}
use Rattle.trees.specs.Files.{split}
use Rattle.trees.specs.Paths.{shared}
use Rattle.trees.proofs.Cutting.{rest_parts, cut_splits, cut_shorter}

-- the parts of what was cut, the last one, and one of more
pub parts_of : (z : ℕ) (bs : List ℕ) (r : Parts) (o : Answer (Bor (List ℕ))) → Cuts z bs r → r.rest ≡ o → split z bs ≡ r.first.now ∷ rest_parts z o
parts_of z bs r o c e = cut_splits z bs r.first.now r.rest c.0 c.1 ∙ ap (λ x. r.first.now ∷ rest_parts z x) e

pub shorter : (z : ℕ) (bs : List ℕ) (r : Parts) (s : Bor (List ℕ)) → Cuts z bs r → r.rest ≡ Some s → length bs ≡ length r.first.now + length s.now + 1
shorter z bs r s c e = cut_shorter z bs r.first.now s (subst (λ o. bs ≡ r.first.now ++ Rattle.trees.specs.Cuts.behind z o) e c.0)

-- so many names more
abbrev pub ahead : ℕ → Option ℕ → Option ℕ
ahead n none = none
ahead n (some d) = some (n + d)

pub ahead_none : (o : Option ℕ) → ahead 0 o ≡ o
ahead_none none = refl
ahead_none (some d) = ap some (omega arith)

pub ahead_more : (n : ℕ) (o : Option ℕ) → ahead n (mapped suc o) ≡ ahead (n + 1) o
ahead_more n none = refl
ahead_more n (some d) = ap some (omega arith)

eqb_sym : (x y : ℕ) → eqb x y ≡ eqb y x
eqb_sym x y = grind (arith, nat_tests)

pub same_sym : (m n : Name) → same_name m n ≡ same_name n m
same_sym [] [] = refl
same_sym [] (y ∷ ys) = refl
same_sym (x ∷ xs) [] = refl
same_sym (x ∷ xs) (y ∷ ys) = (λ j. eqb_sym x y j && same_sym xs ys j)

-- what an answer of the order says
abbrev Says : Ordering → Name → Name → Type 0
Says Less m n = (same_name n m ≡ false) × (before m n ≡ true)
Says Equal m n = same_name n m ≡ true
Says Greater m n = (same_name n m ≡ false) × (before m n ≡ false)

pub says : (m n : Name) (o : Ordering) → o ≡ order m n → Says o m n
says m n o e = go (same_name m n) refl (before m n) refl
  where
    go : (s : Bool) → same_name m n ≡ s → (b : Bool) → before m n ≡ b → Says o m n
    go true p b q = let is : o ≡ Equal = e ∙ ap (λ x. cond x Equal (cond (before m n) Less Greater)) p in subst (λ x. Says x m n) (sym is) (same_sym n m ∙ p)
    go false p true q = let is : o ≡ Less = e ∙ (λ j. cond (p j) Equal (cond (q j) Less Greater)) in subst (λ x. Says x m n) (sym is) (same_sym n m ∙ p, q)
    go false p false q = let is : o ≡ Greater = e ∙ (λ j. cond (p j) Equal (cond (q j) Less Greater)) in subst (λ x. Says x m n) (sym is) (same_sym n m ∙ p, q)

pub shared_less : (m n : Name) (p q : List Name) → Less ≡ order m n → shared (m ∷ p) (n ∷ q) ≡ some 0
shared_less m n p q e = let s = says m n Less e in (λ j. cond (s.0 j) (mapped suc (shared p q)) (cond (s.1 j) (some 0) none))

pub shared_greater : (m n : Name) (p q : List Name) → Greater ≡ order m n → shared (m ∷ p) (n ∷ q) ≡ none
shared_greater m n p q e = let s = says m n Greater e in (λ j. cond (s.0 j) (mapped suc (shared p q)) (cond (s.1 j) (some 0) none))

pub shared_equal : (m n : Name) (p q : List Name) → Equal ≡ order m n → shared (m ∷ p) (n ∷ q) ≡ mapped suc (shared p q)
shared_equal m n p q e = ap (λ x. cond x (mapped suc (shared p q)) (cond (before m n) (some 0) none)) (says m n Equal e)

pub shared_end : (p : List Name) → shared p [] ≡ none
shared_end [] = refl
shared_end (m ∷ p) = refl
