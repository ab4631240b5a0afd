-- When places and questions are the same. Assumes nothing.
use Rattle.std.specs.Prelude.{ℕ, suc, List, [], ◌∷◌}
use Rattle.caches.specs.declared.places.Root.{Root}
use Rattle.caches.specs.declared.places.Root.TheVariants.{Dot, Param}
use Rattle.caches.specs.declared.places.Place.{Place}
use Rattle.caches.specs.declared.questions.Question.{Question}
use Rattle.caches.specs.declared.questions.Question.TheVariants.{Same, Kind, Presence, Function}
use Rattle.caches.specs.Paths.{path_names}

-- the numbers of a place: its root, and the names of its path
abbrev pub root_number : Root → ℕ
root_number Dot = 0
root_number (Param n) = suc n

abbrev pub place_numbers : Place → List ℕ
place_numbers p = root_number p.root ∷ path_names p.path

-- the numbers of a question: its kind, and what it asks of
abbrev pub question_numbers : Question → List ℕ
question_numbers (Same p) = 0 ∷ place_numbers p
question_numbers (Kind p) = 1 ∷ place_numbers p
question_numbers (Presence p) = 2 ∷ place_numbers p
question_numbers (Function n) = 3 ∷ n ∷ []
