-- Loops that put a piece for each element of a list. Assumes nothing.
use Rattle.std.proofs.Common.{◌≡◌, ℕ, ◌+◌, ◌<◌, ◌≤◌, Bool, true, false, cond, eqb, List, [], ◌∷◌, ◌++◌, length, get_or, take, drop, sym, refl, ap, ◌∙◌, subst, append_assoc, append-nil}
use Rattle.std.specs.List.{flat_map as flat}
use Rattle.std.proofs.lemmas.List.{take_more, take_all, take-append-drop, drop_more}
use Rattle.values.specs.Values.{Name}
use Rattle.trees.specs.Files.{escape, joined}
use Rattle.listing.specs.Puts.{Adds}
use Rattle.listing.specs.Pieces.{steps}
use Rattle.listing.proofs.Growing.{front_lacks, back_lacks}

pub flat_append : {X : Type 0} (f : X → List ℕ) (xs ys : List X) → flat f (xs ++ ys) ≡ flat f xs ++ flat f ys
flat_append f [] ys = refl
flat_append f (x ∷ xs) ys = ap (λ l. f x ++ l) (flat_append f xs ys) ∙ sym (append_assoc (f x) (flat f xs) (flat f ys))

module _ {X : Type 0} (f : X → List ℕ) (xs : List X) where
  pub flat_more : (i : ℕ) (d : X) → i < length xs → flat f (take i xs) ++ f (get_or xs i d) ≡ flat f (take (i + 1) xs)
  flat_more i d h =
      ap (λ l. flat f (take i xs) ++ l) (sym (append-nil (f (get_or xs i d))))
      ∙ sym (flat_append f (take i xs) (get_or xs i d ∷ [])) ∙ ap (flat f) (sym (take_more xs i d h))

  -- what was put, what is put now, and the rest
  pub flat_parts : (i : ℕ) (d : X) → i < length xs → flat f (take i xs) ++ (f (get_or xs i d) ++ flat f (drop (i + 1) xs)) ≡ flat f xs
  flat_parts i d h =
      ap (λ l. flat f (take i xs) ++ flat f l) (sym (drop_more xs i d h))
      ∙ sym (flat_append f (take i xs) (drop i xs)) ∙ ap (flat f) (take-append-drop i xs)

  module _ {S : Type 0} {room : S → ℕ} {grows : S → List ℕ → S → Type 0} (adds : Adds room grows) where
    pub more : {s t u : S} (i : ℕ) (d : X) → i < length xs → grows s (flat f (take i xs)) t → grows t (f (get_or xs i d)) u → grows s (flat f (take (i + 1) xs)) u
    more {s} {t} {u} i d h a b = subst (λ l. grows s l u) (flat_more i d h) (adds.both s t u (flat f (take i xs)) (f (get_or xs i d)) a b)

    pub lacks : {s t : S} (i : ℕ) (d : X) → i < length xs → grows s (flat f (take i xs)) t → room t < length (f (get_or xs i d)) → room s < length (flat f xs)
    lacks {s} {t} i d h a b =
        subst (λ l. room s < length l) (flat_parts i d h)
        (back_lacks adds {s = s} {t = t} (flat f (take i xs)) (f (get_or xs i d) ++ flat f (drop (i + 1) xs)) a (front_lacks adds {s = t} (f (get_or xs i d)) (flat f (drop (i + 1) xs)) b))

    pub all : {s t : S} (i : ℕ) → length xs ≤ i → grows s (flat f (take i xs)) t → grows s (flat f xs) t
    all {s} {t} i h a = subst (λ l. grows s (flat f l) t) (take_all i xs h) a

-- a text byte by byte
pub escape_flat : (xs : List ℕ) → flat (λ b. escape (b ∷ [])) xs ≡ escape xs
escape_flat [] = refl
escape_flat (b ∷ bs) = ap (λ l. escape (b ∷ []) ++ l) (escape_flat bs) ∙ go (eqb b 10) (eqb b 9) (eqb b 92)
  where
    go : (p q r : Bool) → cond p (92 ∷ 110 ∷ []) (cond q (92 ∷ 116 ∷ []) (cond r (92 ∷ 92 ∷ []) (b ∷ []))) ++ escape bs ≡ cond p (92 ∷ 110 ∷ escape bs) (cond q (92 ∷ 116 ∷ escape bs) (cond r (92 ∷ 92 ∷ escape bs) (b ∷ escape bs)))
    go true q r = refl
    go false true r = refl
    go false false true = refl
    go false false false = refl

-- names and what is between them
pub steps_joined : (n : Name) (ns : List Name) → n ++ steps ns ≡ joined 47 (n ∷ ns)
steps_joined n [] = append-nil n
steps_joined n (m ∷ ns) = ap (λ l. n ++ 47 ∷ l) (steps_joined m ns)
