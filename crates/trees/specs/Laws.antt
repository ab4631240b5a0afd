-- What is promised of lines. Assumes nothing.
use Rattle.std.specs.Prelude.{◌≡◌, ℕ, true, List, ◌∷◌}
use Rattle.std.proofs.Math.Option.{none, some}
use Rattle.values.specs.Values.{Name, Members, nil}
use Rattle.values.specs.Limits.{all_ordered}
use Rattle.trees.specs.Lines.{Leaf, Line, line, lines_of, ok, bad, put, step, fill, within}
use Rattle.trees.specs.Progress.{last_path, place_behind}

-- a line is out of order exactly where its path, compared name by name, may not stand behind that of the line before it
pub record LinesAscend : Type 0 where
  pub refused : (ms : Members) (n : Name) (p : List Name) (c : Leaf) → place_behind ms (n ∷ p) ≡ none → step (line (n ∷ p) c) ms ≡ bad 9
  pub taken : (ms : Members) (n : Name) (p : List Name) (c : Leaf) (d : ℕ) → place_behind ms (n ∷ p) ≡ some d → (ws : Members) × (put ms n p c ≡ ok ws) × (last_path ws ≡ n ∷ p)

-- lines that are taken up are those of the binding that they make, and a binding's own lines make it
pub record LinesAgree : Type 0 where
  pub listed : (ls : List Line) (ms : Members) → fill nil ls ≡ ok ms → lines_of ms ≡ ls
  pub read : (ms : Members) → all_ordered ms ≡ true → within ms ≡ true → fill nil (lines_of ms) ≡ ok ms
