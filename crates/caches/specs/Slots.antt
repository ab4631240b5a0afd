-- Slots of a keeper, and the entries that they stand for. Assumes nothing.
use Rattle.std.specs.Prelude.{ℕ, suc, ◌+◌, ◌<◌, ◌≤◌, cond, List, [], ◌∷◌, map, length, take, drop, slice_index_or}
use Rattle.caches.specs.declared.keys.Key.{Key}
use Rattle.caches.specs.declared.questions.Answered.{Answered}
use Rattle.caches.specs.declared.keeper_slots.Slot.{Slot}
use Rattle.caches.specs.Keys.{same_key}
use Rattle.caches.specs.Entries.{Entry, entry}

abbrev pub slot_entry : List Answered → Slot → Entry
slot_entry row s = entry s.key s.product (take s.len (drop s.from row))

abbrev pub slot_entries : List Slot → List Answered → List Entry
slot_entries slots row = map (slot_entry row) slots

-- each slot's answers stand in a row of n
abbrev pub Fit : List Slot → ℕ → Type 0
Fit slots n = (k : ℕ) (d : Slot) → k < length slots → (slice_index_or slots k d).from + (slice_index_or slots k d).len ≤ n

-- how many answers all slots have
abbrev pub all_lens : List Slot → ℕ
all_lens [] = 0
all_lens (s ∷ ss) = s.len + all_lens ss

-- the places of the slots that have the key, counted from n
abbrev pub places : Key → ℕ → List Slot → List ℕ
places key n [] = []
places key n (s ∷ ss) = cond (same_key s.key key) (n ∷ places key (suc n) ss) (places key (suc n) ss)
