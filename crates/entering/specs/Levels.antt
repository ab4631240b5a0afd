-- The bytes of an accepted tree, level by level. Assumes nothing.
use Rattle.std.specs.Prelude.{◌≡◌, ℕ, ◌<◌, ◌≤◌, true, cond, List, [], ◌∷◌, ◌++◌, length}
use Rattle.values.specs.Values.{Name, Value, text, truth, binding, Members, nil, cons}
use Rattle.values.specs.Limits.{name_byte, fit, many, height, heights, small, all_small, ordered, all_ordered, named, all_named}
use Rattle.trees.specs.Lines.{Leaf, text_leaf, truth_leaf, empty_leaf, leaf_value}
use Rattle.trees.specs.Files.{escape, kind_mark, content}

-- kind, tab and content
abbrev pub leaf_bytes : Leaf → List ℕ
leaf_bytes c = kind_mark c ++ 9 ∷ content c

-- what stands behind the path of a leaf
abbrev pub leaf_line : Leaf → List ℕ → List ℕ
leaf_line c rest = 9 ∷ (leaf_bytes c ++ 10 ∷ rest)

-- the lines of a value at a path, and of members whose paths all begin with a prefix
unfoldable mutual
  pub value_bytes : List ℕ → Value → List ℕ
  value_bytes p (text s) = p ++ leaf_line (text_leaf s) []
  value_bytes p (truth b) = p ++ leaf_line (truth_leaf b) []
  value_bytes p (binding ms) = binding_bytes p ms

  pub binding_bytes : List ℕ → Members → List ℕ
  binding_bytes p nil = p ++ leaf_line empty_leaf []
  binding_bytes p (cons n v ms) = value_bytes ((p ++ 47 ∷ []) ++ n) v ++ member_bytes (p ++ 47 ∷ []) ms

  pub member_bytes : List ℕ → Members → List ℕ
  member_bytes q nil = []
  member_bytes q (cons n v ms) = value_bytes (q ++ n) v ++ member_bytes q ms

-- the name bytes that bytes begin with
abbrev pub front_name : List ℕ → List ℕ
front_name [] = []
front_name (b ∷ bs) = cond (name_byte b) (b ∷ front_name bs) []

-- bytes begin with a prefix
pub record Begins (prefix bytes : List ℕ) : Type 0 where
  pub rest : List ℕ
  pub is : bytes ≡ prefix ++ rest

-- there is a line more under a prefix
pub record GoesOn (prefix bytes : List ℕ) : Type 0 where
  pub begins : Begins prefix bytes
  pub some_left : 0 < length bytes

-- what stands behind a level does not belong to it
abbrev pub Ends : List ℕ → List ℕ → Type 0
Ends prefix after = GoesOn prefix after → ⊥

-- members by the rules, of bindings that are at most so high
pub record Sound (ms : Members) (levels : ℕ) : Type 0 where
  pub are_small : all_small ms ≡ true
  pub are_ordered : all_ordered ms ≡ true
  pub are_named : all_named ms ≡ true
  pub low : heights ms < levels

-- bytes begin with the lines of members
pub record Level (prefix bytes : List ℕ) (levels : ℕ) (ms : Members) (after : List ℕ) : Type 0 where
  pub lines : bytes ≡ member_bytes prefix ms ++ after
  pub ends : Ends prefix after
  pub sound : Sound ms levels
  pub few : many ms ≤ 64
  pub shallow : levels ≤ 16

-- bytes begin with the lines of a value at a path
pub record Placed (path bytes : List ℕ) (levels : ℕ) (v : Value) (after : List ℕ) : Type 0 where
  pub lines : bytes ≡ value_bytes path v ++ after
  pub ends : Ends (path ++ 47 ∷ []) after
  pub is_small : small v ≡ true
  pub is_ordered : ordered v ≡ true
  pub is_named : named v ≡ true
  pub low : height v < levels
  pub shallow : levels ≤ 16

-- bytes begin with the lines of a member
pub record Single (prefix bytes : List ℕ) (levels : ℕ) (n : Name) (v : Value) (after : List ℕ) : Type 0 where
  pub fits : fit n ≡ true
  pub placed : Placed (prefix ++ n) bytes levels v after

-- some such members, value, member
abbrev pub HasLevel : List ℕ → List ℕ → ℕ → Type 0
HasLevel prefix bytes levels = (ms : Members) × (after : List ℕ) × Level prefix bytes levels ms after

abbrev pub HasValue : List ℕ → List ℕ → ℕ → Type 0
HasValue path bytes levels = (v : Value) × (after : List ℕ) × Placed path bytes levels v after

abbrev pub HasMember : List ℕ → List ℕ → ℕ → Type 0
HasMember prefix bytes levels = (n : Name) × (v : Value) × (after : List ℕ) × Single prefix bytes levels n v after

-- bytes are a leaf within the limits, or begin with one
abbrev pub HasLeaf : List ℕ → Type 0
HasLeaf bytes = (c : Leaf) × (bytes ≡ leaf_bytes c) × (small (leaf_value c) ≡ true)

abbrev pub HasLine : List ℕ → Type 0
HasLine bytes = (c : Leaf) × (after : List ℕ) × (bytes ≡ leaf_bytes c ++ 10 ∷ after) × (small (leaf_value c) ≡ true)

-- bytes are the content of a text that has room
abbrev pub HasContent : List ℕ → ℕ → Type 0
HasContent bytes room = (s : List ℕ) × (bytes ≡ escape s) × (length s ≤ room)
