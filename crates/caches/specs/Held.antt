-- What a keeper and a ring hold. Assumes nothing.
use Rattle.std.specs.Prelude.{List, vec_items}
use Rattle.std.specs.VecDeque.{deque_items}
use Rattle.caches.specs.declared.keeper.Keeper.{Keeper}
use Rattle.caches.specs.declared.ring.Ring.{Ring}
use Rattle.caches.specs.Entries.{Entry}
use Rattle.caches.specs.Slots.{slot_entries}
use Rattle.caches.specs.Rings.{ring_entries}

abbrev pub keeper_held : Keeper → List Entry
keeper_held k = slot_entries (vec_items k.slots) (vec_items k.answers)

abbrev pub ring_held : Ring → List Entry
ring_held r = ring_entries (deque_items r.slots)
