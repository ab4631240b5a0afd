use Rattle.std.proofs.Common.{◌≡◌, ◌+◌, ◌≤◌, length}
use Rattle.trees.specs.Files.{unescape}
use Rattle.trees.specs.Contents.{counted}
use Rattle.trees.proofs.escapes.text_len.Given as goal

-- the bytes counted and those to come are what the whole content gives
abbrev pub invariant-loop-rest : goal.invariant-loop-rest
invariant-loop-rest l = (counted l.len (unescape l.left) ≡ counted 0 (unescape l.content)) × (l.len + length l.left ≤ length l.content)

abbrev pub decreases-loop-rest : goal.decreases-loop-rest
decreases-loop-rest l = length l.left
