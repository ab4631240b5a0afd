use Rattle.std.proofs.Common.{◌≡◌, ◌++◌, length}
use Rattle.values.specs.Values.{mapped}
use Rattle.trees.specs.Files.{unescape}
use Rattle.entering.proofs.leaves.unescape.Given as goal

-- the bytes written and those to come are the text
abbrev pub invariant-loop-byte : goal.invariant-loop-byte
invariant-loop-byte l = mapped (λ t. l.text.items ++ t) (unescape l.left) ≡ unescape l.content

abbrev pub decreases-loop-byte : goal.decreases-loop-byte
decreases-loop-byte l = length l.left
