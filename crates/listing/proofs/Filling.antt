-- What one write makes of a lent buffer. Assumes nothing.
use Rattle.std.proofs.Common.{◌≡◌, ℕ, zero, suc, ◌+◌, ◌<◌, ◌≤◌, List, [], ◌∷◌, ◌++◌, length, take, drop, get_or, set, refl, ap, ◌∙◌, arith, length-append, length-drop}
use Rattle.std.proofs.lemmas.List.{length-take-le}
use Rattle.listing.specs.declared.output.Fill.{Fill}
use Rattle.listing.specs.Outputs.{stored, FillGrows}

pub stored_long : (old : List ℕ) (at : ℕ) (xs : List ℕ) → at + length xs ≤ length old → length (stored old at xs) ≡ length old
stored_long old at xs h =
    length-append (take at old) (xs ++ drop (at + length xs) old)
    ∙ omega (arith, h, length-take-le at old (omega arith), length-append xs (drop (at + length xs) old), length-drop (at + length xs) old)

-- one piece
pub grown : (s t : Fill) (xs : List ℕ) → s.at + length xs ≤ length s.buffer.now → t.at ≡ s.at + length xs → t.buffer.ghost_name ≡ s.buffer.ghost_name → t.buffer.now ≡ stored s.buffer.now s.at xs → FillGrows s xs t
grown s t xs h e n b = record { at_is = e; buffer_is = b; long = ap length b ∙ stored_long s.buffer.now s.at xs h; same = n }

-- a pair that is stored
pub pair_is : (xs : List ℕ) → length xs ≡ 2 → xs ≡ get_or xs 0 0 ∷ get_or xs 1 0 ∷ []
pair_is [] e = absurd (omega (arith, e))
pair_is (a ∷ []) e = absurd (omega (arith, e))
pair_is (a ∷ b ∷ []) e = refl
pair_is (a ∷ b ∷ c ∷ xs) e = absurd (omega (arith, e))

pub pair_set : (old : List ℕ) (i a b : ℕ) → suc i < length old → set (set old i a) (suc i) b ≡ take i old ++ (a ∷ b ∷ drop (suc (suc i)) old)
pair_set [] i a b h = absurd (omega arith)
pair_set (x ∷ []) zero a b h = absurd (omega arith)
pair_set (x ∷ y ∷ old) zero a b h = refl
pair_set (x ∷ old) (suc i) a b h = ap (λ l. x ∷ l) (pair_set old i a b (omega arith))
