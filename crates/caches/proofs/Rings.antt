-- Laws of a ring's entries. Assumes nothing.
use Rattle.std.specs.Prelude.{◌≡◌, ℕ, zero, suc, ◌-◌, ◌<◌, ◌≤◌, true, false, cond, List, [], ◌∷◌, ◌++◌, length, take, drop, slice_set, Some, None, Option, refl}
use Rattle.std.proofs.Common.{sym, ap, ◌∙◌, inr, arith}
use Rattle.std.specs.Borrow.{Bor}
use Rattle.std.specs.List.{filter, slice_get}
use Rattle.std.specs.Option.{option_map}
use Rattle.std.proofs.lemmas.Option.{slice_get-map}
use Rattle.std.proofs.Math.Nat.{suc-ne-zero}
use Rattle.std.proofs.Math.Seq.{set-append_seam}
use Rattle.std.proofs.lemmas.List.{drop-append-le, length_push, length-map, map-append}
use Rattle.caches.specs.declared.keys.Key.{Key}
use Rattle.caches.specs.declared.ring_slots.RingSlot.{RingSlot}
use Rattle.caches.specs.Keys.{same_key}
use Rattle.caches.specs.Entries.{Entry, with_key, Member, Added}
use Rattle.caches.specs.Exact.{newest}
use Rattle.caches.specs.Rings.{ring_entry, ring_entries}
use Rattle.caches.proofs.Lists.{added_end}

-- the slots that have the key
abbrev pub slots_with : Key → List RingSlot → List RingSlot
slots_with key = filter (λ s. same_key s.key key)

with_key_slots : (key : Key) (slots : List RingSlot) → with_key key (ring_entries slots) ≡ ring_entries (slots_with key slots)
with_key_slots key [] = refl
with_key_slots key (s ∷ ss) =
    let rest = with_key_slots key ss in
    elim (same_key s.key key) as (λ b. cond b (ring_entry s ∷ with_key key (ring_entries ss)) (with_key key (ring_entries ss)) ≡ ring_entries (cond b (s ∷ slots_with key ss) (slots_with key ss))) [ true ↦ ap (λ l. ring_entry s ∷ l) rest | false ↦ rest ]

read_entry : (r : Option (Bor RingSlot)) → option_map (λ s. ring_entry s.now) r ≡ option_map ring_entry (option_map (λ s. s.now) r)
read_entry None = refl
read_entry (Some s) = refl

member_drop : (n : ℕ) (es : List Entry) (x : Entry) → Member x (drop n es) → Member x es
member_drop zero es x m = m
member_drop (suc n) [] x m = m
member_drop (suc n) (e ∷ es) x m = inr (member_drop n es x m)

pub ring_added : (e : Entry) (old new : List Entry) → new ≡ newest 16 (old ++ e ∷ []) → length e.answers ≤ 64 → Added e old true new
ring_added e old new p short =
    let n : length (old ++ e ∷ []) - 16 ≡ length old - 15 = omega (arith, length_push old e) in
    let q : new ≡ newest 15 old ++ e ∷ [] = p ∙ ap (λ m. drop m (old ++ e ∷ [])) n ∙ drop-append-le (length old - 15) old (e ∷ []) (omega arith) in
    added_end e (newest 15 old) old new (member_drop (length old - 15) old) q short

module _ (mid : List RingSlot) (s : RingSlot) (e : Entry) (n : ℕ) (last : n ≡ length mid - 1) (filled : ring_entry s ≡ e) where
  -- the last slot, behind the first ones, is filled anew
  refilled : (first : List RingSlot) (x : RingSlot) → mid ≡ first ++ x ∷ [] → ring_entries (slice_set mid n s) ≡ ring_entries first ++ e ∷ []
  refilled first x p =
      let at : n ≡ length first = omega (arith, last, ap length p, length_push first x) in
      ap (λ l. ring_entries (slice_set l n s)) p ∙ ap (λ m. ring_entries (slice_set (first ++ x ∷ []) m s)) at ∙ ap ring_entries (set-append_seam first x [] s)
      ∙ map-append ring_entry first (s ∷ []) ∙ ap (λ d. ring_entries first ++ d ∷ []) filled

  -- a new slot, where the ring is not full
  pub put_more : (old : List RingSlot) (x : RingSlot) → mid ≡ old ++ x ∷ [] → length old < 16 → ring_entries (slice_set mid n s) ≡ newest 16 (ring_entries old ++ e ∷ [])
  put_more old x p few =
      let none : length (ring_entries old ++ e ∷ []) - 16 ≡ 0 = omega (arith, length_push (ring_entries old) e, length-map old ring_entry, few) in
      refilled old x p ∙ sym (ap (λ m. drop m (ring_entries old ++ e ∷ [])) none)

  -- the oldest of 16
  pub put_over : (old : List RingSlot) → mid ≡ drop 1 old ++ take 1 old → length old ≡ 16 → ring_entries (slice_set mid n s) ≡ newest 16 (ring_entries old ++ e ∷ [])
  put_over [] p full = absurd (suc-ne-zero 15 (sym full))
  put_over (o ∷ os) p full =
      let one : length (ring_entries (o ∷ os) ++ e ∷ []) - 16 ≡ 1 = omega (arith, length_push (ring_entries (o ∷ os)) e, length-map (o ∷ os) ring_entry, full) in
      refilled os o p ∙ sym (ap (λ m. drop m (ring_entries (o ∷ os) ++ e ∷ [])) one)

module _ (key : Key) (slots : List RingSlot) where
  pub ring_kth : (r : Option (Bor RingSlot)) (n k : ℕ) → n ≡ k → option_map (λ s. s.now) r ≡ slice_get (slots_with key slots) n → option_map (λ s. ring_entry s.now) r ≡ slice_get (with_key key (ring_entries slots)) k
  ring_kth r n k e found =
      read_entry r ∙ ap (option_map ring_entry) (found ∙ ap (slice_get (slots_with key slots)) e) ∙ sym (slice_get-map ring_entry (slots_with key slots) k)
      ∙ ap (λ l. slice_get l k) (sym (with_key_slots key slots))

  pub ring_count : length (slots_with key slots) ≡ length (with_key key (ring_entries slots))
  ring_count = sym (ap length (with_key_slots key slots) ∙ length-map (slots_with key slots) ring_entry)
