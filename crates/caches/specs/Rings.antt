-- The entries of a ring. Assumes nothing.
use Rattle.std.specs.Prelude.{ℕ, List, ◌++◌, map, take, drop}
use Rattle.caches.specs.declared.ring_slots.RingSlot.{RingSlot}
use Rattle.caches.specs.Entries.{Entry, entry}

abbrev pub ring_entry : RingSlot → Entry
ring_entry s = entry s.key s.product s.answers.items

abbrev pub ring_entries : List RingSlot → List Entry
ring_entries = map ring_entry

-- a list turned, so that what stands at n comes first
abbrev pub turned : {X : Type 0} → ℕ → List X → List X
turned n xs = drop n xs ++ take n xs
