use Rattle.std.proofs.Common.{◌≡◌, ℕ, ◌≤◌, Bool, true, false, ◌&&◌, ◌||◌, eqb, List, [], ◌∷◌, length, refl, arith}
use Rattle.values.specs.Limits.{dots}
use Rattle.values.proofs.names.is_dots.Goals as goal

-- three bytes are neither
too_long : (s : List ℕ) → 3 ≤ length s → false ≡ dots s
too_long [] h = absurd (omega arith)
too_long (x ∷ []) h = absurd (omega arith)
too_long (x ∷ y ∷ []) h = absurd (omega arith)
too_long (x ∷ y ∷ z ∷ s) h = neither (eqb x 46) (eqb y 46)
  where
    neither : (a b : Bool) → false ≡ ((a && false) || (a && (b && false)))
    neither true true = refl
    neither true false = refl
    neither false b = refl

pub returns-in_default-5 : goal.returns-in_default-5
returns-in_default-5 c = too_long c.args.bytes.now c.in_default.len_at_least
