-- When one path may stand behind another. Assumes nothing.
use Rattle.std.specs.Prelude.{ℕ, suc, cond, List, [], ◌∷◌}
use Rattle.std.proofs.Math.Option.{Option, none, some}
use Rattle.values.specs.Values.{Name, same_name, before, mapped}

-- how many names a path shares with the one before it, if it may stand behind it: it does where, at the first name in which the two
-- differ, its own is the greater. It does not where it is the same path, goes on below it, or ends above it.
abbrev pub shared : List Name → List Name → Option ℕ
shared [] q = none
shared (m ∷ p) [] = none
shared (m ∷ p) (n ∷ q) = cond (same_name n m) (mapped suc (shared p q)) (cond (before m n) (some 0) none)
