use Rattle.std.proofs.Common.{◌≡◌, ◌-◌, ◌≤◌, true, take, drop, vec_items, vec_len}
use Rattle.values.specs.Index.{content_key, all_before, all_after}
use Rattle.values.specs.Memory.{key_of}
use Rattle.values.proofs.store.Table.find.Given as goal

-- what stands below `low` is smaller, and what stands from `high` on is larger
abbrev pub invariant-loop-low : goal.invariant-loop-low
invariant-loop-low l =
    (l.low ≤ l.high) × (l.high ≤ vec_len l.self.index)
    × (all_before (key_of l.self) (content_key l.sought) (take l.low (vec_items l.self.index)) ≡ true)
    × (all_after (key_of l.self) (content_key l.sought) (drop l.high (vec_items l.self.index)) ≡ true)

abbrev pub decreases-loop-low : goal.decreases-loop-low
decreases-loop-low l = l.high - l.low
