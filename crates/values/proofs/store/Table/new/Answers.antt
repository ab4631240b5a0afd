use Rattle.std.proofs.Common.{rules}
use Rattle.values.specs.Memory.{values}
use Rattle.values.proofs.InMemory.{newly}
use Rattle.values.proofs.store.Table.new.Goals as goal

pub invariant_of-result : goal.invariant_of-result
invariant_of-result c =
    let n = newly _ _ _ _ _ _ _ _ c.in_ok-bytes.ensures.items c.in_ok-members.ensures.items
    c.in_ok-nodes.ensures.items c.push_reserved.ensures.items c.push_reserved-2.ensures.items
    c.in_ok-index.ensures.items c.push_reserved-3.ensures.items c.push_reserved-4.ensures.items in
    record { room = search rules; few = search rules; paired = search rules; sound = n.sound; indexed = n.indexed }

pub returns : goal.returns
unfolding values
returns c =
    (newly _ _ _ _ _ _ _ _ c.in_ok-bytes.ensures.items c.in_ok-members.ensures.items
    c.in_ok-nodes.ensures.items c.push_reserved.ensures.items c.push_reserved-2.ensures.items
    c.in_ok-index.ensures.items c.push_reserved-3.ensures.items c.push_reserved-4.ensures.items).values
