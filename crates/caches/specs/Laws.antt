-- What the laws of each kind of cache rest on. Assumes nothing.
use Rattle.std.specs.Prelude.{◌≡◌, ℕ, ◌≤◌, ◌⊎◌, List, [], ◌∷◌, ◌++◌, length}
use Rattle.std.proofs.Common.{sym, subst, inl, inr, ⊎_elim, arith, length-take, length-drop, length-append}
use Rattle.caches.specs.declared.questions.Answered.{Answered}
use Rattle.caches.specs.declared.keeper_slots.Slot.{Slot}
use Rattle.caches.specs.declared.ring_slots.RingSlot.{RingSlot}
use Rattle.caches.specs.Entries.{Entry, Member, AllShort}
use Rattle.caches.specs.Slots.{slot_entries}
use Rattle.caches.specs.Rings.{ring_entry, ring_entries, turned}

pub member_split : (e : Entry) (a b : List Entry) → Member e (a ++ b) → Member e a ⊎ Member e b
member_split e [] b h = inr h
member_split e (x ∷ a) b (inl p) = inl (inl p)
member_split e (x ∷ a) b (inr p) = ⊎_elim (λ q. inl (inr q)) (λ q. inr q) (member_split e a b p)

pub slots_short : (slots : List Slot) (row : List Answered) → AllShort (slot_entries slots row)
slots_short [] row e m = absurd m
slots_short (s ∷ ss) row e (inl p) = subst (λ (x : Entry). length x.answers ≤ 64) (sym p) (simp length-take (omega (arith, s.few)))
slots_short (s ∷ ss) row e (inr m) = slots_short ss row e m

pub slot_short : (s : RingSlot) → length (ring_entry s).answers ≤ 64
slot_short s = s.few

pub ring_short : (slots : List RingSlot) → AllShort (ring_entries slots)
ring_short [] e m = absurd m
ring_short (s ∷ ss) e (inl p) = subst (λ (x : Entry). length x.answers ≤ 64) (sym p) (slot_short s)
ring_short (s ∷ ss) e (inr m) = ring_short ss e m

pub length_turned : {X : Type 0} (n : ℕ) (xs : List X) → length (turned n xs) ≡ length xs
length_turned n xs = simp (length-append, length-take, length-drop) (omega arith)
