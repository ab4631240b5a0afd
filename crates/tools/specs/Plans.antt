-- The tools `cat` and `first`, and toolboxes of one tool and side by side. Assumes nothing.
use Rattle.std.specs.Prelude.{ℕ, cond, List, [], ◌∷◌, ◌++◌, length, codes, nat_le}
use Rattle.std.proofs.Math.Option.{Option, none, some}
use Rattle.values.specs.Values.{Name, same_name}
use Rattle.trees.specs.Files.{split}
use Rattle.tools.specs.Tools.{Answer, Reply, fetch, product, failure, Plan, Tool, Tools}

-- a product, or failure 2 where it is over 1,024 bytes
abbrev pub within : List ℕ → Reply → Reply
within text reply = cond (nat_le (length text) 1024) reply (failure 2)

-- `cat`: the texts so far are joined, these paths are left, and these answers
abbrev pub joining : List ℕ → List (List ℕ) → List Answer → Reply
joining text [] given = product text
joining text (path ∷ paths) [] = fetch path
joining text (path ∷ paths) (none ∷ given) = failure 1
joining text (path ∷ paths) (some piece ∷ given) = within (text ++ piece) (joining (text ++ piece) paths given)

-- `first`: nothing was found so far, these paths are left, and these answers
abbrev pub choosing : List (List ℕ) → List Answer → Reply
choosing [] given = failure 1
choosing (path ∷ paths) [] = fetch path
choosing (path ∷ paths) (none ∷ given) = choosing paths given
choosing (path ∷ paths) (some text ∷ given) = within text (product text)

-- the paths of a command, parted by single blanks; an empty command has none
abbrev pub paths_of : List ℕ → List (List ℕ)
paths_of [] = []
paths_of (b ∷ bs) = split 32 (b ∷ bs)

-- the texts at all paths, joined
abbrev pub cat : Plan
cat command given = joining [] (paths_of command) given

-- the first text that is found at a path; an empty command gives the empty text
abbrev pub first : Plan
first [] given = product []
first (b ∷ bs) given = choosing (paths_of (b ∷ bs)) given

-- a toolbox that has one tool, of version 1
abbrev pub only : Name → Plan → Tools
only own plan name = cond (same_name name own) (some (record { version = 1; plan = plan })) none

abbrev pub cat_only : Tools
cat_only = only (codes "cat") cat

abbrev pub first_only : Tools
first_only = only (codes "first") first

-- two toolboxes side by side: left's tool if left has the name, else right's
abbrev pub or_else : Option Tool → Option Tool → Option Tool
or_else none other = other
or_else (some t) other = some t

abbrev pub beside : Tools → Tools → Tools
beside left right name = or_else (left name) (right name)
