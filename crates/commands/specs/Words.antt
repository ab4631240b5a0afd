-- Commands as words. Assumes nothing.
use Rattle.std.specs.Prelude.{ℕ, cond, List, [], ◌∷◌, codes, ◌==◌}
use Rattle.values.specs.Values.{same_name}
use Rattle.trees.specs.Files.{split}
use Rattle.commands.specs.declared.asked.Command.{Command}
use Rattle.commands.specs.declared.asked.Command.TheVariants.{Nothing, Tree, Tool, Caches, Help, Unknown}

-- parts that are not empty
abbrev pub filled : List (List ℕ) → List (List ℕ)
filled [] = []
filled ([] ∷ ps) = filled ps
filled ((b ∷ bs) ∷ ps) = (b ∷ bs) ∷ filled ps

-- the words of a line stand between blanks
abbrev pub words_of : List ℕ → List (List ℕ)
words_of line = filled (split 32 line)

-- a line that begins with `#` has no words
abbrev pub line_words : List ℕ → List (List ℕ)
line_words [] = []
line_words (b ∷ bs) = cond (b == 35) [] (words_of (b ∷ bs))

-- what may be asked
pub data Asked : Type 0 where
  nothing caches help unknown : Asked
  tree : List ℕ → Asked
  -- the name of a tool, and that of a tree file
  tool : List ℕ → List ℕ → Asked

-- what a single word asks, and a word with the name of a file
abbrev pub one_word : List ℕ → Asked
one_word w = cond (same_name w (codes "help")) help (cond (same_name w (codes "caches")) caches unknown)

abbrev pub two_words : List ℕ → List ℕ → Asked
two_words w f = cond (same_name w (codes "tree")) (tree f) unknown

-- what three words or more ask, of which the first, the second and the last are these
abbrev pub more_words : List ℕ → List ℕ → List ℕ → Asked
more_words w n f = cond (same_name w (codes "tool")) (tool n f) unknown

-- the last of some words
abbrev pub last_of : List ℕ → List (List ℕ) → List ℕ
last_of w [] = w
last_of w (v ∷ ws) = last_of v ws

-- what words ask
abbrev pub command_of : List (List ℕ) → Asked
command_of [] = nothing
command_of (w ∷ []) = one_word w
command_of (w ∷ f ∷ []) = two_words w f
command_of (w ∷ f ∷ x ∷ ws) = more_words w f (last_of x ws)

abbrev pub asked : Command → Asked
asked Nothing = nothing
asked (Tree f) = tree f.now
asked (Tool n f) = tool n.now f.now
asked Caches = caches
asked Help = help
asked Unknown = unknown
