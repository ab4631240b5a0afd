use Rattle.std.proofs.Common.{rules, length, ◌≡◌, ◌-◌}
use Rattle.std.specs.VecDeque.{deque_items, deque_len}
use Rattle.caches.specs.Entries.{offered}
use Rattle.caches.proofs.Rings.{put_more, put_over}
use Rattle.caches.proofs.ring.Ring.put.Goals as goal
use Rattle.caches.proofs.ring.Ring.put.Goals.{then-len-lt-ROOM, else-len-lt-ROOM}

pub returns-in-Some : goal.returns-in-Some
returns-in-Some c =
    let old = deque_items c.args.self.now.slots in
    let mid = deque_items c.if-len-lt-ROOM.self.1.0 in
    let s = c.refill.new.self in
    let e = offered c.args.offer in
    let last : deque_len c.if-len-lt-ROOM.self.1.0 - 1 ≡ length mid - 1 = search rules in
    elim c.if-len-lt-ROOM.branch [ then-len-lt-ROOM w ↦ put_more mid s e _ last (search rules) old w.without_answers-slot.result (search rules) (search rules) | else-len-lt-ROOM w ↦ put_over mid s e _ last (search rules) old (search rules) (search rules) ]
