-- Cutting at the first separator. Assumes nothing.
use Rattle.std.specs.Prelude.{◌≡◌, ℕ, Bool, true, not, ◌&&◌, List, [], ◌∷◌, ◌++◌, Some, None, Option as Answer, ◌==◌}
use Rattle.std.specs.Borrow.{Bor}
use Rattle.trees.specs.declared.parts.Parts.{Parts}

-- no separator stands in a part
abbrev pub free : ℕ → List ℕ → Bool
free z [] = true
free z (b ∷ bs) = not (b == z) && free z bs

-- a separator and what stands behind it, or nothing
abbrev pub behind : ℕ → Answer (Bor (List ℕ)) → List ℕ
behind z None = []
behind z (Some s) = z ∷ s.now

-- the first part, the separator and the rest are all of the bytes, and the first part holds no separator
abbrev pub Cuts : ℕ → List ℕ → Parts → Type 0
Cuts z bs r = (bs ≡ r.first.now ++ behind z r.rest) × (free z r.first.now ≡ true)
