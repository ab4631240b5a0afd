use Rattle.std.proofs.Common.{◌≡◌, ◌+◌, ◌-◌, ◌*◌, length, take}
use Rattle.std.specs.List.{flat_map as flat}
use Rattle.values.specs.Memory.{values}
use Rattle.listing.specs.Pieces.{spellings}
use Rattle.listing.proofs.Walks.{member_bytes}
use Rattle.listing.proofs.walk.Walk.+put_members_put_value.Given as goal

abbrev pub decreases-put_members : goal.decreases-put_members
decreases-put_members g l = 2 * (16 - length l.self.now.path.items)

abbrev pub decreases-put_value : goal.decreases-put_value
decreases-put_value g l = 2 * (16 - length l.self.now.path.items) + 1

abbrev pub invariant-put_members-loop-member : goal.invariant-put_members-loop-member
invariant-put_members-loop-member g l =
    let w = l.initial.self in
    let T = values w.table.now in
    (l.self ≡ w) × g.S.Sink.grows l.initial.out (flat (member_bytes T (spellings T w.path.items)) (take l.member-index l.members)) l.out
