-- What a line as the file writes it stands for. Assumes nothing.
use Rattle.std.specs.Prelude.{ℕ, List, [], Ok, Err, Result}
use Rattle.std.proofs.Math.Option.{Option, none, some}
use Rattle.trees.specs.Lines.{Leaf, text_leaf, truth_leaf, empty_leaf, Line, line}
use Rattle.trees.specs.Files.{split, unescape}
use Rattle.trees.specs.declared.escapes.Malformed.{Malformed}
use Rattle.trees.specs.declared.lines.RawLeaf.{RawLeaf}
use Rattle.trees.specs.declared.lines.RawLeaf.TheVariants.{Text, Truth, Empty}
use Rattle.trees.specs.declared.lines.RawLine.{RawLine}

-- the text that a content stands for; a malformed one stands for none, and is never read
abbrev pub or_empty : Option (List ℕ) → List ℕ
or_empty none = []
or_empty (some t) = t

abbrev pub raw_leaf : RawLeaf → Leaf
raw_leaf (Text c) = text_leaf (or_empty (unescape c.now))
raw_leaf (Truth b) = truth_leaf b
raw_leaf Empty = empty_leaf

abbrev pub raw_line : RawLine → Line
raw_line l = line (split 47 l.path.now) (raw_leaf l.leaf)

-- what reading answers
abbrev pub read_leaf : Result RawLeaf Malformed → Option Leaf
read_leaf (Ok l) = some (raw_leaf l)
read_leaf (Err _) = none

abbrev pub read_line : Result RawLine Malformed → Option Line
read_line (Ok l) = some (raw_line l)
read_line (Err _) = none
