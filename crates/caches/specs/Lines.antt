-- The index of a keeper: a line for each entry, in the order of keys and, of one key, of age. Assumes nothing.
use Rattle.std.specs.Prelude.{◌≡◌, ℕ, ◌+◌, ◌<◌, true, cond, List, [], ◌∷◌, ◌++◌, map, length, slice_index_or}
use Rattle.std.specs.declared.cmp.Ordering.{Ordering}
use Rattle.std.specs.Cmp.{IsTotalOrder, nat_cmp_total, on_total, then_total}
use Rattle.std.specs.List.{filter}
use Rattle.std.specs.Ordering.{is_lt, ordering_then, nat_cmp}
use Rattle.caches.specs.declared.keys.Key.{Key}
use Rattle.caches.specs.declared.keys.Key.TheVariants.{Tool}
use Rattle.caches.specs.declared.keeper_slots.Indexed.{Indexed}
use Rattle.caches.specs.Keys.{key_order, same_key, key_total}

-- by key, and lines of one key by their entries' numbers
abbrev pub line_order : Indexed → Indexed → Ordering
line_order x y = ordering_then (key_order x.key y.key) (nat_cmp x.entry y.entry)

-- it is a total order
pub line_order_total : IsTotalOrder line_order
line_order_total = then_total (on_total (λ (x : Indexed). x.key) key_total) (on_total (λ (x : Indexed). x.entry) nat_cmp_total)

-- the line at a place
abbrev pub line_at : List Indexed → ℕ → Indexed
line_at xs i = slice_index_or xs i (record { key = Tool 0 0 0; entry = 0 })

-- each line is less than the next
abbrev pub Sorted : List Indexed → Type 0
Sorted xs = (i : ℕ) → i + 1 < length xs → is_lt (line_order (line_at xs i) (line_at xs (i + 1))) ≡ true

-- every line's entry is below n
abbrev pub Below : ℕ → List Indexed → Type 0
Below n xs = (k : ℕ) (d : Indexed) → k < length xs → (slice_index_or xs k d).entry < n

-- the lines that have the key
abbrev pub lines_with : Key → List Indexed → List Indexed
lines_with key = filter (λ x. same_key x.key key)

-- the numbers of the entries that have the key
abbrev pub numbers_with : Key → List Indexed → List ℕ
numbers_with key xs = map (λ (x : Indexed). x.entry) (lines_with key xs)

-- an entry is put into the index
pub record Enlists (key : Key) (n : ℕ) (xs ys : List Indexed) : Type 0 where
  pub sorted : Sorted ys
  pub below : Below (n + 1) ys
  pub numbers : (k : Key) → numbers_with k ys ≡ numbers_with k xs ++ cond (same_key key k) (n ∷ []) []
