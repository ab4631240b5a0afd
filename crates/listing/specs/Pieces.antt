-- The pieces that a line is put together from. Assumes nothing.
use Rattle.std.specs.Prelude.{ℕ, List, [], ◌∷◌, ◌++◌, map}
use Rattle.values.specs.Values.{Name, Value}
use Rattle.values.specs.Table.{spelt, under}
use Rattle.trees.specs.Lines.{Leaf, text_leaf, truth_leaf, empty_leaf, Line, line}
use Rattle.trees.specs.Files.{kind_mark, content}
use Rattle.values.specs.declared.parts.Member.{Member}
use Rattle.values.specs.declared.parts.Content.{Content}
use Rattle.values.specs.declared.parts.Content.TheVariants.{Truth, Text, Binding}

-- the names that numbers stand for
abbrev pub spelling : List Value → ℕ → Name
spelling T n = spelt (under T n)

abbrev pub spellings : List Value → List ℕ → List Name
spellings T ns = map (spelling T) ns

-- names, each behind a `/`
abbrev pub steps : List Name → List ℕ
steps [] = []
steps (n ∷ ns) = 47 ∷ (n ++ steps ns)

-- what follows the path in a line
abbrev pub ending : Leaf → List ℕ
ending c = 9 ∷ (kind_mark c ++ 9 ∷ (content c ++ 10 ∷ []))

-- the members that a content has
abbrev pub held : Content → List Member
held (Truth b) = []
held (Text s) = []
held (Binding ms) = ms.now

-- the end of a line for a content that has no members
abbrev pub leaf_of : Content → Leaf
leaf_of (Truth b) = truth_leaf b
leaf_of (Text s) = text_leaf s.now
leaf_of (Binding ms) = empty_leaf

-- a line that many names deeper
abbrev pub deeper : List Name → Line → Line
deeper ns (line p c) = line (ns ++ p) c
