-- What a reader keeps of the lines read so far: the path of the last line, and how many members each binding along it has. Assumes nothing.
use Rattle.std.specs.Prelude.{ℕ, zero, suc, ◌+◌, Bool, true, ◌&&◌, List, [], ◌∷◌, length, nat_le}
use Rattle.std.proofs.Math.Option.{Option, some}
use Rattle.values.specs.Values.{Name, Value, text, truth, binding, Members, nil, cons}
use Rattle.values.specs.Limits.{many}
use Rattle.trees.specs.Lines.{at_end, Leaf, text_leaf, truth_leaf, empty_leaf}
use Rattle.trees.specs.Paths.{shared}

-- the path of the last line
abbrev mutual
  pub last_path : Members → List Name
  last_path nil = []
  last_path (cons n v ms) = at_end ms (n ∷ value_path v) (last_path ms)

  pub value_path : Value → List Name
  value_path (text s) = []
  value_path (truth b) = []
  value_path (binding ms) = last_path ms

-- how many members the bindings along the last path have, from the top down
abbrev mutual
  pub deeper_counts : Members → List ℕ
  deeper_counts nil = []
  deeper_counts (cons n v ms) = at_end ms (value_counts v) (deeper_counts ms)

  pub value_counts : Value → List ℕ
  value_counts (text s) = []
  value_counts (truth b) = []
  value_counts (binding ms) = at_end ms [] (many ms ∷ deeper_counts ms)

abbrev pub counts : Members → List ℕ
counts ms = many ms ∷ deeper_counts ms

-- how many names a new path shares with the last one, if it may stand behind it; the first line may always stand
abbrev pub place_behind : Members → List Name → Option ℕ
place_behind nil p = some 0
place_behind (cons n v ms) p = shared (last_path (cons n v ms)) p

-- what a leaf adds to the height of its path, and whether its text is within the limit
abbrev pub leaf_height : Leaf → ℕ
leaf_height (text_leaf s) = 0
leaf_height (truth_leaf b) = 0
leaf_height empty_leaf = 1

abbrev pub leaf_small : Leaf → Bool
leaf_small (text_leaf s) = nat_le (length s) 1024
leaf_small (truth_leaf b) = true
leaf_small empty_leaf = true

-- a path of so many names, its leaf, and one member more beside so many are within their limits
abbrev pub in_limits : ℕ → Leaf → ℕ → Bool
in_limits names c count = nat_le (names + leaf_height c) 16 && (leaf_small c && nat_le (suc count) 64)

-- the counts once a path that shares d names with the last one stands behind it: one member more at d, one in each binding below
abbrev pub ones : List Name → List ℕ
ones [] = []
ones (n ∷ p) = 1 ∷ ones p

abbrev pub bumped : ℕ → List ℕ → List Name → List ℕ
bumped d [] p = []
bumped d (c ∷ cs) [] = []
bumped zero (c ∷ cs) (n ∷ p) = suc c ∷ ones p
bumped (suc d) (c ∷ cs) (n ∷ p) = c ∷ bumped d cs p
