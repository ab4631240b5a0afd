use Rattle.std.proofs.Common.{ℕ, ◌+◌, ◌*◌, List, length}
use Rattle.values.specs.Values.{Members}
use Rattle.values.specs.Memory.{values}
use Rattle.entering.specs.Levels.{Level}
use Rattle.entering.proofs.Turning.{Turn}
use Rattle.entering.proofs.members.+enter_member_enter_members_enter_value.Given as goal

abbrev pub decreases-enter_value : goal.decreases-enter_value
decreases-enter_value l = 3 * l.levels

abbrev pub decreases-enter_member : goal.decreases-enter_member
decreases-enter_member l = 3 * l.levels + 1

abbrev pub decreases-enter_members : goal.decreases-enter_members
decreases-enter_members l = 3 * l.levels + 2

-- the members entered so far, and those to come
abbrev pub invariant-enter_members-loop-table : goal.invariant-enter_members-loop-table
invariant-enter_members-loop-table l =
    (ms : Members) (after : List ℕ) → Level l.prefix l.bytes l.levels ms after → Turn (values l.initial.table) l.prefix l.left l.levels (values l.table) l.members.items ms after

abbrev pub decreases-enter_members-loop-table : goal.decreases-enter_members-loop-table
decreases-enter_members-loop-table l = length l.left
