-- An accepted tree is the lines of its members, level by level. Assumes nothing.
use Rattle.std.proofs.Common.{◌≡◌, ℕ, ◌≤◌, true, ◌&&◌, leb, List, [], ◌∷◌, ◌++◌, map, sym, refl, ap, ◌∙◌, append_assoc, append-nil, arith}
use Rattle.std.proofs.lemmas.Bool.{and_parts}
use Rattle.std.proofs.lemmas.Bool.Decides.{nat_tests}
use Rattle.values.specs.Values.{Name, Value, text, truth, binding, Members, nil, cons}
use Rattle.values.specs.Limits.{many, height, small, all_small, all_ordered, all_named}
use Rattle.trees.specs.Lines.{Leaf, text_leaf, truth_leaf, empty_leaf, Line, line, below, lines, some_lines, lines_of}
use Rattle.trees.specs.Files.{joined, line_bytes, written}
use Rattle.trees.specs.Accepted.{tree_members}
use Rattle.trees.specs.declared.tree.Tree.{Tree}
use Rattle.trees.proofs.Accepting.{tree_listed, tree_proper}
use Rattle.entering.specs.Levels.{leaf_bytes, leaf_line, value_bytes, binding_bytes, member_bytes, Level}

-- lines whose paths go on behind a path
abbrev path_at : List ℕ → List Name → Leaf → List ℕ
path_at q [] c = q ++ leaf_line c []
path_at q (n ∷ r) c = path_at ((q ++ 47 ∷ []) ++ n) r c

abbrev line_at : List ℕ → Line → List ℕ
line_at q (line r c) = path_at q r c

abbrev bytes_at : List ℕ → List Line → List ℕ
bytes_at q [] = []
bytes_at q (l ∷ ls) = line_at q l ++ bytes_at q ls

bytes_below : (q : List ℕ) (n : Name) (ls : List Line) → bytes_at q (map (below n) ls) ≡ bytes_at ((q ++ 47 ∷ []) ++ n) ls
bytes_below q n [] = refl
bytes_below q n (line r c ∷ ls) = ap (λ b. path_at ((q ++ 47 ∷ []) ++ n) r c ++ b) (bytes_below q n ls)

bytes_both : (q : List ℕ) (ls ks : List Line) → bytes_at q (ls ++ ks) ≡ bytes_at q ls ++ bytes_at q ks
bytes_both q [] ks = refl
bytes_both q (l ∷ ls) ks = ap (λ b. line_at q l ++ b) (bytes_both q ls ks) ∙ sym (append_assoc (line_at q l) (bytes_at q ls) (bytes_at q ks))

mutual
  unfolding value_bytes

  value_lines : (q : List ℕ) (v : Value) → bytes_at q (lines v) ≡ value_bytes q v
  value_lines q (text s) = append-nil (q ++ leaf_line (text_leaf s) [])
  value_lines q (truth b) = append-nil (q ++ leaf_line (truth_leaf b) [])
  value_lines q (binding ms) = binding_lines q ms

  binding_lines : (q : List ℕ) (ms : Members) → bytes_at q (some_lines ms) ≡ binding_bytes q ms
  binding_lines q nil = append-nil (q ++ leaf_line empty_leaf [])
  binding_lines q (cons n v ms) =
      bytes_both q (map (below n) (lines v)) (lines_of ms) ∙ (λ j. (bytes_below q n (lines v) ∙ value_lines ((q ++ 47 ∷ []) ++ n) v) j ++ member_lines q ms j)

  member_lines : (q : List ℕ) (ms : Members) → bytes_at q (lines_of ms) ≡ member_bytes (q ++ 47 ∷ []) ms
  member_lines q nil = refl
  member_lines q (cons n v ms) =
      bytes_both q (map (below n) (lines v)) (lines_of ms) ∙ (λ j. (bytes_below q n (lines v) ∙ value_lines ((q ++ 47 ∷ []) ++ n) v) j ++ member_lines q ms j)

-- a path that is joined
joined_on : (q : List ℕ) (n : Name) (r : List Name) → joined 47 (((q ++ 47 ∷ []) ++ n) ∷ r) ≡ q ++ 47 ∷ joined 47 (n ∷ r)
joined_on q n [] = append_assoc q (47 ∷ []) n
joined_on q n (m ∷ r) = simp append_assoc

path_joined : (q : List ℕ) (r : List Name) (c : Leaf) → path_at q r c ≡ joined 47 (q ∷ r) ++ leaf_line c []
path_joined q [] c = refl
path_joined q (n ∷ r) c = path_joined ((q ++ 47 ∷ []) ++ n) r c ∙ ap (λ p. p ++ leaf_line c []) (joined_on q n r)

with_feed : (p l w : List ℕ) → (p ++ 9 ∷ l) ++ 10 ∷ w ≡ (p ++ 9 ∷ (l ++ 10 ∷ [])) ++ w
with_feed p l w = simp append_assoc

written_below : (n : Name) (ls : List Line) → written (map (below n) ls) ≡ bytes_at n ls
written_below n [] = refl
written_below n (line r c ∷ ls) =
    with_feed (joined 47 (n ∷ r)) (leaf_bytes c) (written (map (below n) ls)) ∙ (λ j. sym (path_joined n r c) j ++ written_below n ls j)

written_both : (ls ks : List Line) → written (ls ++ ks) ≡ written ls ++ written ks
written_both [] ks = refl
written_both (l ∷ ls) ks = ap (λ b. line_bytes l ++ 10 ∷ b) (written_both ls ks) ∙ sym (append_assoc (line_bytes l) (10 ∷ written ls) (written ks))

written_members : (ms : Members) → written (lines_of ms) ≡ member_bytes [] ms
unfolding value_bytes
written_members nil = refl
written_members (cons n v ms) = written_both (map (below n) (lines v)) (lines_of ms) ∙ (λ j. (written_below n (lines v) ∙ value_lines n v) j ++ written_members ms j)

-- the members of a tree
pub tree_level : (t : Tree) → Level [] t.bytes.now 16 (tree_members t) []
tree_level t =
    let ms = tree_members t in
    let whole = and_parts (leb (height (binding ms)) 16) (small (binding ms) && (all_ordered ms && all_named ms)) (tree_proper t) in
    let sizes = and_parts (small (binding ms)) (all_ordered ms && all_named ms) whole.1 in
    let names = and_parts (all_ordered ms) (all_named ms) sizes.1 in
    let counts = and_parts (leb (many ms) 64) (all_small ms) sizes.0 in
    let low = at_most (height (binding ms)) 16 whole.0 in
    record {
      lines = sym (tree_listed t) ∙ written_members ms ∙ sym (append-nil (member_bytes [] ms));
      ends = λ g. omega (arith, g.some_left);
      sound = record { are_small = counts.1; are_ordered = names.0; are_named = names.1; low = omega arith };
      few = at_most (many ms) 64 counts.0;
      shallow = omega arith;
    }
  where
    at_most : (a b : ℕ) → leb a b ≡ true → a ≤ b
    at_most a b k = grind (arith, nat_tests)
