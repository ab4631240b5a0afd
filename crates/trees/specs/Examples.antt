-- Examples of tree files. Assumes nothing.
use Rattle.std.specs.Prelude.{◌≡◌, ℕ, true, List, [], ◌∷◌, ◌++◌, codes}
use Rattle.values.specs.Values.{nil, cons, text, truth, binding}
use Rattle.trees.specs.Files.{read_tree, accepted, done, refused}

abbrev tab : List ℕ
tab = 9 ∷ []

abbrev row : List ℕ → List ℕ → List ℕ → List ℕ
row p k c = p ++ tab ++ k ++ tab ++ c ++ 10 ∷ []

pub record Examples : Type 0 where
  -- the empty file
  pub none : read_tree [] ≡ done nil
  -- a/b and a/c under one a; a stands before a-
  pub two : read_tree (row (codes "a/b") (codes "t") (codes "x\\n") ++ row (codes "a/c") (codes "e") [] ++ row (codes "a-") (codes "b") (codes "TRUE"))
      ≡ done (cons (codes "a") (binding (cons (codes "b") (text (120 ∷ 10 ∷ [])) (cons (codes "c") (binding nil) nil))) (cons (codes "a-") (truth true) nil))
  -- a/b, then a
  pub above : read_tree (row (codes "a/b") (codes "t") [] ++ row (codes "a") (codes "t") []) ≡ refused 9 7
  -- a, then a/b
  pub continued : read_tree (row (codes "a") (codes "t") [] ++ row (codes "a/b") (codes "t") []) ≡ refused 9 5
  -- no line feed at the end
  pub unended : read_tree (row (codes "a") (codes "t") [] ++ codes "b") ≡ refused 8 5
  -- a text's path of 16 names passes, one of 17 is too long
  pub sixteen : accepted (read_tree (row (codes "a/b/c/d/e/f/g/h/i/j/k/l/m/n/o/p") (codes "t") [])) ≡ true
  pub deep : read_tree (row (codes "a/b/c/d/e/f/g/h/i/j/k/l/m/n/o/p/q") (codes "t") []) ≡ refused 10 0
  -- an empty binding's path of 15 names passes, one of 16 is too long
  pub fifteen : accepted (read_tree (row (codes "a/b/c/d/e/f/g/h/i/j/k/l/m/n/o") (codes "e") [])) ≡ true
  pub empty_deep : read_tree (row (codes "a/b/c/d/e/f/g/h/i/j/k/l/m/n/o/p") (codes "e") []) ≡ refused 10 0
