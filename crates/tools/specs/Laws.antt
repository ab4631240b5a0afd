-- What `cat` and `first` do over whole lists of answers. Assumes nothing.
use Rattle.std.specs.Prelude.{◌≡◌, ℕ, ◌<◌, ◌≤◌, List, [], ◌∷◌, ◌++◌, map, length, replicate}
use Rattle.std.proofs.Math.Option.{none, some}
use Rattle.values.specs.Values.{nth}
use Rattle.tools.specs.Tools.{Answer, fetch, product, failure}
use Rattle.tools.specs.Plans.{paths_of, cat, first}

-- texts one behind the other
abbrev pub chained : List (List ℕ) → List ℕ
chained [] = []
chained (t ∷ ts) = t ++ chained ts

-- that nothing was found so many times
abbrev pub nothing : ℕ → List Answer
nothing n = replicate n none

pub record Laws : Type 0 where
  -- behind so many texts `cat` asks for the next path, and behind all of them it gives them joined
  pub cat_asks : (command path : List ℕ) (texts : List (List ℕ)) → nth (paths_of command) (length texts) ≡ some path → length (chained texts) ≤ 1024 → cat command (map some texts) ≡ fetch path
  pub cat_joins : (command : List ℕ) (texts : List (List ℕ)) → length texts ≡ length (paths_of command) → length (chained texts) ≤ 1024 → cat command (map some texts) ≡ product (chained texts)
  -- where nothing was found so many times `first` asks for the next path, gives the first text found, and fails behind the last path
  pub first_asks : (command path : List ℕ) (n : ℕ) → nth (paths_of command) n ≡ some path → first command (nothing n) ≡ fetch path
  pub first_finds : (command text : List ℕ) (n : ℕ) (given : List Answer) → n < length (paths_of command) → length text ≤ 1024 → first command (nothing n ++ some text ∷ given) ≡ product text
  pub first_fails : (command : List ℕ) → 0 < length command → first command (nothing (length (paths_of command))) ≡ failure 1
