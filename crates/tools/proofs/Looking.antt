-- Looking up an answer. Assumes nothing.
use Rattle.std.proofs.Common.{◌≡◌, ℕ, zero, suc, ◌+◌, ◌-◌, ◌<◌, ◌≤◌, min, List, [], ◌∷◌, map, length, get_or, take, drop, sym, refl, ap, ◌∙◌, ⊎_elim, arith, length-drop}
use mathlib.Core.Option.{none, some}
use Rattle.std.proofs.lemmas.List.{take_all, drop_all}
use Rattle.std.proofs.lemmas.Bool.{cases_lt}
use Rattle.values.specs.Values.{nth}

-- a stretch, cut down to what the pool has
pub cut_down : (pool : List ℕ) (start len a n : ℕ) → a ≡ min start (length pool) → n ≡ min len (length pool - a) → take ((a + n) - a) (drop a pool) ≡ take len (drop start pool)
cut_down pool start len a n e f =
    let k : (a + n) - a ≡ n = omega arith in
    ap (λ m. take m (drop a pool)) k ∙ ⊎_elim inside past (cases_lt start (length pool))
  where
    enough : (m : ℕ) (xs : List ℕ) → m ≡ min len (length xs) → take m xs ≡ take len xs
    enough m xs g = ⊎_elim (λ l. let h : m ≡ len = omega arith in ap (λ j. take j xs) h) (λ l. take_all m xs (omega arith) ∙ sym (take_all len xs l)) (cases_lt len (length xs))

    inside : start < length pool → take n (drop a pool) ≡ take len (drop start pool)
    inside l =
        let s : a ≡ start = omega arith in
        ap (λ j. take n (drop j pool)) s ∙ enough n (drop start pool) (omega (arith, length-drop start pool))

    past : length pool ≤ start → take n (drop a pool) ≡ take len (drop start pool)
    past l =
        let d : drop a pool ≡ drop start pool = drop_all a pool (omega arith) ∙ sym (drop_all start pool l) in
        ap (take n) d ∙ enough n (drop start pool) (omega (arith, length-drop start pool))

pub nth_past : {A B : Type 0} (f : A → B) (xs : List A) (i : ℕ) → length xs ≤ i → nth (map f xs) i ≡ none
nth_past f [] i l = refl
nth_past f (x ∷ xs) zero l = absurd (omega arith)
nth_past f (x ∷ xs) (suc i) l = nth_past f xs i (omega arith)

pub nth_here : {A B : Type 0} (f : A → B) (xs : List A) (i : ℕ) (d : A) → i < length xs → nth (map f xs) i ≡ some (f (get_or xs i d))
nth_here f [] i d l = absurd (omega arith)
nth_here f (x ∷ xs) zero d l = refl
nth_here f (x ∷ xs) (suc i) d l = nth_here f xs i d (omega arith)
