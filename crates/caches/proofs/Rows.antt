-- Laws of the slots of a keeper. Assumes nothing.
use Rattle.std.specs.Prelude.{◌≡◌, ℕ, zero, suc, ◌+◌, ◌<◌, ◌≤◌, Bool, true, false, cond, ◌&&◌, List, [], ◌∷◌, ◌++◌, length, get_or, take, drop, Some, None, Option, nat_le, nat_lt, slice_index_or, refl}
use Rattle.std.proofs.Common.{sym, ap, subst, ◌∙◌, arith, length-take, length-drop, ltb-true, leb-true}
use Rattle.std.specs.Borrow.{Bor}
use Rattle.std.specs.List.{slice_get}
use Rattle.std.specs.Slice.{IsItemAt}
use Rattle.std.specs.Option.{option_map}
use Rattle.std.proofs.lemmas.List.{get_or-drop, take-append-le, drop-append-le, take_all, drop_at, map_push, drop-drop, length-map}
use Rattle.std.proofs.lemmas.Option.{slice_get-map, slice_get_past, slice_get_read, none-some, same_Some}
use Rattle.caches.specs.declared.keys.Key.{Key}
use Rattle.caches.specs.declared.questions.Answered.{Answered}
use Rattle.caches.specs.declared.keeper_slots.Slot.{Slot}
use Rattle.caches.specs.declared.keeper_slots.Indexed.{Indexed}
use Rattle.caches.specs.Keys.{same_key}
use Rattle.caches.specs.Entries.{Entry, entry, with_key}
use Rattle.caches.specs.Exact.{all_answers, has_room}
use Rattle.caches.specs.Slots.{slot_entry, slot_entries, Fit, all_lens, places}
use Rattle.caches.specs.Lines.{lines_with, numbers_with}

-- ---- entries by their places

pub places_length : (key : Key) (row : List Answered) (n : ℕ) (ss : List Slot) → length (with_key key (slot_entries ss row)) ≡ length (places key n ss)
places_length key row n [] = refl
places_length key row n (s ∷ ss) =
    let rest = places_length key row (suc n) ss in
    elim (same_key s.key key) as (λ b. length (cond b (slot_entry row s ∷ with_key key (slot_entries ss row)) (with_key key (slot_entries ss row))) ≡ length (cond b (n ∷ places key (suc n) ss) (places key (suc n) ss))) [ true ↦ ap suc rest | false ↦ rest ]

module _ (key : Key) (row : List Answered) (all : List Slot) (d : Slot) where
  abbrev from_place : Option ℕ → Option Entry
  from_place = option_map (λ i. slot_entry row (slice_index_or all i d))

  places_nth : (n : ℕ) (ss : List Slot) → ss ≡ drop n all → (k : ℕ) → slice_get (with_key key (slot_entries ss row)) k ≡ from_place (slice_get (places key n ss) k)
  places_nth n [] e k = refl
  places_nth n (s ∷ ss) e k =
      let first : n + 0 ≡ n = omega arith in
      let next : n + 1 ≡ suc n = omega arith in
      let at : s ≡ get_or all n d = ap (λ l. get_or l 0 d) e ∙ get_or-drop n all 0 d ∙ ap (λ m. get_or all m d) first in
      let after : ss ≡ drop (suc n) all = ap (drop 1) e ∙ drop-drop 1 n all ∙ ap (λ m. drop m all) next in
      go (same_key s.key key) k at (places_nth (suc n) ss after)
    where
      go : (b : Bool) (k : ℕ) → s ≡ slice_index_or all n d → ((j : ℕ) → slice_get (with_key key (slot_entries ss row)) j ≡ from_place (slice_get (places key (suc n) ss) j)) → slice_get (cond b (slot_entry row s ∷ with_key key (slot_entries ss row)) (with_key key (slot_entries ss row))) k ≡ from_place (slice_get (cond b (n ∷ places key (suc n) ss) (places key (suc n) ss)) k)
      go true zero at rest = ap (λ x. Some (slot_entry row x)) at
      go true (suc k) at rest = rest k
      go false k at rest = rest k

  kth_entry : (index : List Indexed) (k : ℕ) → numbers_with key index ≡ places key 0 all → slice_get (with_key key (slot_entries all row)) k ≡ from_place (option_map (λ (x : Indexed). x.entry) (slice_get (lines_with key index) k))
  kth_entry index k linked = places_nth 0 all refl k ∙ ap (λ l. from_place (slice_get l k)) (sym linked) ∙ ap from_place (slice_get-map (λ (x : Indexed). x.entry) (lines_with key index) k)

  -- where a line stands, so does its entry
  pub kth_is : (index : List Indexed) (k : ℕ) (o : Option Indexed) → numbers_with key index ≡ places key 0 all → slice_get (lines_with key index) k ≡ o → slice_get (with_key key (slot_entries all row)) k ≡ from_place (option_map (λ (x : Indexed). x.entry) o)
  kth_is index k o linked here = kth_entry index k linked ∙ ap (λ l. from_place (option_map (λ (x : Indexed). x.entry) l)) here

places_below : (key : Key) (n : ℕ) (ss : List Slot) (k i : ℕ) → slice_get (places key n ss) k ≡ Some i → i < n + length ss
places_below key n [] k i h = absurd (none-some i h)
places_below key n (s ∷ ss) k i h = go (same_key s.key key) k h (places_below key (suc n) ss)
  where
    go : (b : Bool) (k : ℕ) → slice_get (cond b (n ∷ places key (suc n) ss) (places key (suc n) ss)) k ≡ Some i → ((k i : ℕ) → slice_get (places key (suc n) ss) k ≡ Some i → i < suc n + length ss) → i < n + suc (length ss)
    go true zero g rest = let e = same_Some n i g in omega arith
    go true (suc k) g rest = let r = rest k i g in omega arith
    go false k g rest = let r = rest k i g in omega arith

-- each line's entry has a slot
pub line_below : (key : Key) (index : List Indexed) (slots : List Slot) (k : ℕ) (x : Indexed) → numbers_with key index ≡ places key 0 slots → slice_get (lines_with key index) k ≡ Some x → x.entry < length slots
line_below key index slots k x linked here =
    let none : 0 + length slots ≡ length slots = omega arith in
    subst (λ n. x.entry < n) none (places_below key 0 slots k x.entry (ap (λ l. slice_get l k) (sym linked) ∙ slice_get-map (λ (y : Indexed). y.entry) (lines_with key index) k ∙ ap (option_map (λ (y : Indexed). y.entry)) here))

-- what `get` finds
pub found : {X : Type 0} (xs : List X) (i : ℕ) (r : Option (Bor X)) → IsItemAt xs i r → option_map (λ x. x.now) r ≡ slice_get xs i
found xs i None h = sym (slice_get_past xs i (omega arith))
found xs i (Some x) h = sym (slice_get_read xs (length xs) i x.now refl (omega arith) (cc))

-- as many entries as lines
pub lines_length : (key : Key) (index : List Indexed) (slots : List Slot) (row : List Answered) → numbers_with key index ≡ places key 0 slots → length (lines_with key index) ≡ length (with_key key (slot_entries slots row))
lines_length key index slots row linked = sym (places_length key row 0 slots ∙ ap length (sym linked) ∙ length-map (lines_with key index) (λ (x : Indexed). x.entry))

-- all answers of the entries are those of the slots
pub answers_lens : (slots : List Slot) (row : List Answered) → Fit slots (length row) → all_answers (slot_entries slots row) ≡ all_lens slots
answers_lens [] row f = refl
answers_lens (s ∷ ss) row f =
    let here = f 0 s (omega arith) in
    let long : length (take s.len (drop s.from row)) ≡ s.len = simp (length-take, length-drop) (omega arith) in
    λ i. long i + answers_lens ss row (λ k d g. f (suc k) d (omega arith)) i

-- ---- one slot more

grown : (slots : List Slot) (row qs : List Answered) → Fit slots (length row) → slot_entries slots (row ++ qs) ≡ slot_entries slots row
grown [] row qs f = refl
grown (s ∷ ss) row qs f =
    let h = f 0 s (omega arith) in
    let part : take s.len (drop s.from (row ++ qs)) ≡ take s.len (drop s.from row) = ap (take s.len) (drop-append-le s.from row qs (omega arith)) ∙ take-append-le s.len (drop s.from row) qs (simp length-drop (omega arith)) in
    λ i. entry s.key s.product (part i) ∷ grown ss row qs (λ k d g. f (suc k) d (omega arith)) i

pub one_more : (slots : List Slot) (row qs : List Answered) (s : Slot) → Fit slots (length row) → s.from ≡ length row → s.len ≡ length qs → slot_entries (slots ++ s ∷ []) (row ++ qs) ≡ slot_entries slots row ++ entry s.key s.product qs ∷ []
one_more slots row qs s f a b =
    map_push (slot_entry (row ++ qs)) slots s ∙ ap (λ l. l ++ slot_entry (row ++ qs) s ∷ []) (grown slots row qs f)
    ∙ ap (λ l. slot_entries slots row ++ entry s.key s.product l ∷ []) (ap (take s.len) (drop_at row qs s.from (sym a)) ∙ take_all s.len qs (omega arith))

pub fit_more : (slots : List Slot) (n m : ℕ) (s : Slot) → Fit slots n → n ≤ m → s.from + s.len ≤ m → Fit (slots ++ s ∷ []) m
fit_more [] n m s f h a zero d lt = a
fit_more [] n m s f h a (suc k) d lt = absurd (omega arith)
fit_more (x ∷ xs) n m s f h a zero d lt = let t = f 0 d (omega arith) in omega arith
fit_more (x ∷ xs) n m s f h a (suc k) d lt = fit_more xs n m s (λ j e g. f (suc j) e (omega arith)) h a k d (omega arith)

pub lens_push : (slots : List Slot) (s : Slot) → all_lens (slots ++ s ∷ []) ≡ all_lens slots + s.len
lens_push [] s = omega arith
lens_push (x ∷ xs) s = let rest = lens_push xs s in omega arith

pub places_push : (key : Key) (n : ℕ) (slots : List Slot) (s : Slot) → places key n (slots ++ s ∷ []) ≡ places key n slots ++ cond (same_key s.key key) ((n + length slots) ∷ []) []
places_push key n [] s = elim (same_key s.key key) as (λ b. cond b (n ∷ []) [] ≡ cond b ((n + 0) ∷ []) []) [ true ↦ ap (λ m. m ∷ []) (omega arith) | false ↦ refl ]
places_push key n (x ∷ xs) s =
    let m : suc n + length xs ≡ n + suc (length xs) = omega arith in
    let rest : places key (suc n) (xs ++ s ∷ []) ≡ places key (suc n) xs ++ cond (same_key s.key key) ((n + suc (length xs)) ∷ []) [] = places_push key (suc n) xs s ∙ ap (λ j. places key (suc n) xs ++ cond (same_key s.key key) (j ∷ []) []) m in
    elim (same_key x.key key) as (λ b. cond b (n ∷ places key (suc n) (xs ++ s ∷ [])) (places key (suc n) (xs ++ s ∷ [])) ≡ cond b (n ∷ places key (suc n) xs) (places key (suc n) xs) ++ cond (same_key s.key key) ((n + suc (length xs)) ∷ []) []) [ true ↦ ap (λ l. n ∷ l) rest | false ↦ rest ]

-- ---- a keeper that has one entry more

module _ (slots slots' : List Slot) (s : Slot) (p : slots' ≡ slots ++ s ∷ []) where
  pub fit_grown : (n m : ℕ) → Fit slots n → n ≤ m → s.from + s.len ≤ m → Fit slots' m
  fit_grown n m f h a = subst (λ l. Fit l m) (sym p) (fit_more slots n m s f h a)

  pub lens_grown : all_lens slots' ≡ all_lens slots + s.len
  lens_grown = ap all_lens p ∙ lens_push slots s

  pub entries_grown : (row row' qs : List Answered) → row' ≡ row ++ qs → Fit slots (length row) → s.from ≡ length row → s.len ≡ length qs → slot_entries slots' row' ≡ slot_entries slots row ++ entry s.key s.product qs ∷ []
  entries_grown row row' qs e f a b = (λ i. slot_entries (p i) (e i)) ∙ one_more slots row qs s f a b

  pub linked_grown : (index index' : List Indexed) (k : Key) (n : ℕ) → numbers_with k index' ≡ numbers_with k index ++ cond (same_key s.key k) (n ∷ []) [] → numbers_with k index ≡ places k 0 slots → n ≡ length slots → numbers_with k index' ≡ places k 0 slots'
  linked_grown index index' k n e linked h =
      let m : n ≡ 0 + length slots = omega arith in
      e ∙ (λ i. linked i ++ cond (same_key s.key k) (m i ∷ []) []) ∙ sym (ap (places k 0) p ∙ places_push k 0 slots s)

-- whether there is room, by the numbers of slots and answers
pub room_is : (e : Entry) (slots : List Slot) (row : List Answered) (n m : ℕ) → n ≡ length slots → all_lens slots ≡ m → Fit slots (length row) → (nat_lt n 128 && (nat_le (length e.answers) 64 && nat_le (m + length e.answers) 1024)) ≡ has_room e (slot_entries slots row)
room_is e slots row n m a b f =
    let count : n ≡ length (slot_entries slots row) = a ∙ sym (length-map slots (slot_entry row)) in
    let all : m ≡ all_answers (slot_entries slots row) = sym (answers_lens slots row f ∙ b) in
    λ i. nat_lt (count i) 128 && (nat_le (length e.answers) 64 && nat_le (all i + length e.answers) 1024)

and_true : (a b : Bool) → true ≡ (a && b) → (a ≡ true) × (b ≡ true)
and_true true b h = (refl, sym h)
and_true false b h = cc

pub room_facts : (n l m : ℕ) → true ≡ (nat_lt n 128 && (nat_le l 64 && nat_le m 1024)) → (n < 128) × (l ≤ 64) × (m ≤ 1024)
room_facts n l m h =
    let a = and_true (nat_lt n 128) (nat_le l 64 && nat_le m 1024) h in
    let b = and_true (nat_le l 64) (nat_le m 1024) (sym a.1) in
    (ltb-true n 128 a.0, leb-true l 64 b.0, leb-true m 1024 b.1)
