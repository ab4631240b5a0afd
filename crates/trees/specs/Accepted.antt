-- What checking a file answers, and what an accepted file means. Assumes nothing.
use Rattle.std.specs.Prelude.{◌≡◌, ℕ, true, List, Ok, Err, Result}
use Rattle.values.specs.Values.{Value, binding, Members}
use Rattle.trees.specs.Files.{File, refused, accepted, read_tree, members_read}
use Rattle.trees.specs.Numbers.{number}
use Rattle.trees.specs.declared.answers.Refused.{Refused}
use Rattle.trees.specs.declared.tree.Tree.{Tree}

-- the answer that a reading calls for: accepted, or refused by that number at that place
abbrev pub Judges : File → Result (Unit {0}) Refused → Type 0
Judges f (Ok _) = accepted f ≡ true
Judges f (Err e) = f ≡ refused (number e.refusal) e.place

-- the value read from a file: a binding
abbrev pub value_read : List ℕ → Value
value_read bs = binding (members_read (read_tree bs))

-- the members at the top of an accepted tree
unfoldable pub tree_members : Tree → Members
tree_members t = members_read (read_tree t.bytes.now)

-- a tree is a binding
abbrev pub tree_value : Tree → Value
tree_value t = binding (tree_members t)
