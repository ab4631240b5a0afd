-- Keys in order. Assumes nothing.
use Rattle.std.specs.Prelude.{◌≡◌, ℕ, ◌<◌, ◌≤◌, List, length, Some, None, Ok, Err, Option, Result, ◌≢◌, slice_index_or}
use Rattle.std.specs.declared.cmp.Ordering.TheVariants.{Less, Equal, Greater}
use Rattle.std.specs.declared.cmp.Ordering.{Ordering}
use Rattle.std.specs.List.{insert}

-- one more has room behind len
abbrev pub Room : ℕ → ℕ → Type 0
Room len cap = len < cap

module _ {K : Type 0} (cmp : K → K → Ordering) where
  -- each key is less than those after it
  abbrev pub Climbs : List K → Type 0
  Climbs xs = (i j : ℕ) (d : K) → i < j → j < length xs → cmp (slice_index_or xs i d) (slice_index_or xs j d) ≡ Less

  -- the keys before the place i are less than k
  abbrev pub LessTo : List K → K → ℕ → Type 0
  LessTo xs k i = (j : ℕ) (d : K) → j < i → cmp (slice_index_or xs j d) k ≡ Less

  -- those from i on are greater than k
  abbrev pub MoreFrom : List K → K → ℕ → Type 0
  MoreFrom xs k i = (j : ℕ) (d : K) → i ≤ j → j < length xs → cmp (slice_index_or xs j d) k ≡ Greater

  -- those from i on are not less than k
  abbrev pub NotLessFrom : List K → K → ℕ → Type 0
  NotLessFrom xs k i = (j : ℕ) (d : K) → i ≤ j → j < length xs → cmp (slice_index_or xs j d) k ≢ Less

  -- k stands at i
  abbrev pub At : List K → K → ℕ → Type 0
  At xs k i = (i < length xs) × ((d : K) → cmp (slice_index_or xs i d) k ≡ Equal)

  -- where k stands, or where it belongs
  abbrev pub Found : List K → K → Result ℕ ℕ → Type 0
  Found xs k (Ok i) = At xs k i
  Found xs k (Err i) = (i ≤ length xs) × LessTo xs k i × MoreFrom xs k i

  -- as many keys as i are less than k
  abbrev pub Stands : List K → K → ℕ → Type 0
  Stands xs k i = LessTo xs k i × NotLessFrom xs k i

  -- k is put in at i, and order is kept; or it stands there already, or there is no room, and nothing changes
  abbrev pub Inserts : Type 0 → List K → K → Option ℕ → List K → Type 0
  Inserts room xs k (Some i) ys = (i ≤ length xs) × (ys ≡ insert xs i k) × LessTo xs k i × MoreFrom xs k i × Climbs ys
  Inserts room xs k None ys = (ys ≡ xs) × (room → (i : ℕ) × At xs k i)
