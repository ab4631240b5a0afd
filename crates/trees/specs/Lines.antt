-- The lines of a tree, and the binding that lines make. Assumes nothing.
use Rattle.std.specs.Prelude.{ℕ, Bool, cond, ◌&&◌, List, [], ◌∷◌, ◌++◌, map, nat_le}
use Rattle.values.specs.Values.{Name, Value, text, truth, binding, Members, nil, cons, same_name, before}
use Rattle.values.specs.Limits.{height, small}

-- what stands at the end of a path
pub data Leaf : Type 0 where
  text_leaf : List ℕ → Leaf
  truth_leaf : Bool → Leaf
  empty_leaf : Leaf

-- a line: a path, and what stands at its end
pub data Line : Type 0 where
  line : List Name → Leaf → Line

-- the value that a leaf is
abbrev pub leaf_value : Leaf → Value
leaf_value (text_leaf s) = text s
leaf_value (truth_leaf b) = truth b
leaf_value empty_leaf = binding nil

-- a line one name deeper
abbrev pub below : Name → Line → Line
below n (line p c) = line (n ∷ p) c

-- the lines of a value, the empty binding being a line of its own; and of members, of which there may be none
abbrev mutual
  pub lines : Value → List Line
  lines (text s) = line [] (text_leaf s) ∷ []
  lines (truth b) = line [] (truth_leaf b) ∷ []
  lines (binding ms) = some_lines ms

  pub some_lines : Members → List Line
  some_lines nil = line [] empty_leaf ∷ []
  some_lines (cons n v ms) = map (below n) (lines v) ++ lines_of ms

  pub lines_of : Members → List Line
  lines_of nil = []
  lines_of (cons n v ms) = map (below n) (lines v) ++ lines_of ms

-- a reading: the members read so far, or a refusal by its number
pub data Read : Type 0 where
  ok : Members → Read
  bad : ℕ → Read

-- go on with what was read
abbrev pub after : Read → (Members → Read) → Read
after (ok ms) k = k ms
after (bad e) k = bad e

-- a path's value where nothing was
abbrev pub chain : List Name → Leaf → Value
chain [] c = leaf_value c
chain (n ∷ p) c = binding (cons n (chain p c) nil)

-- one thing where there are no members, another where there are some
abbrev pub at_end : {A : Type 0} → Members → A → A → A
at_end nil a b = a
at_end (cons n v ms) a b = b

-- a line put behind those read so far: into the last member if it has the name, else behind it. Only a binding with members can be
-- continued. All else does not ascend, or is below an earlier line's path.
abbrev mutual
  pub put : Members → Name → List Name → Leaf → Read
  put nil n p c = ok (cons n (chain p c) nil)
  put (cons m v ms) n p c = at_end ms
      (cond (same_name n m) (after (into v p c) (λ ws. ok (cons m (binding ws) nil))) (cond (before m n) (ok (cons m v (cons n (chain p c) nil))) (bad 9)))
      (after (put ms n p c) (λ ws. ok (cons m v ws)))

  pub into : Value → List Name → Leaf → Read
  into (text s) p c = bad 9
  into (truth b) p c = bad 9
  into (binding ms) [] c = bad 9
  into (binding ms) (n ∷ p) c = at_end ms (bad 9) (put ms n p c)

-- within the limits: a path of at most 16 names (15 to an empty binding), texts and members
abbrev pub within : Members → Bool
within ms = nat_le (height (binding ms)) 16 && small (binding ms)

-- one line behind those read so far: out of order it is refused by 9, past a limit by 10
abbrev pub step : Line → Members → Read
step (line [] c) ms = bad 9
step (line (n ∷ p) c) ms = after (put ms n p c) (λ ws. cond (within ws) (ok ws) (bad 10))

-- all lines, one behind the other
abbrev pub fill : Members → List Line → Read
fill ms [] = ok ms
fill ms (l ∷ ls) = after (step l ms) (λ ws. fill ws ls)
