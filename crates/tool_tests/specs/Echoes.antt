-- A tool whose product is its command. Assumes nothing.
use Rattle.std.specs.Prelude.{ℕ, ◌≤◌, List, length}
use Rattle.tools.specs.Tools.{Answer, product, Plan, Small}

-- the command is the product
abbrev pub echo : Plan
echo command given = product command

pub echo_small : (command : List ℕ) (given : List Answer) → length command ≤ 1024 → Small (echo command given)
echo_small command given l = l
