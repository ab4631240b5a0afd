-- Exactly what each kind of cache holds after a call. Assumes nothing.
use Rattle.std.specs.Prelude.{◌≡◌, ℕ, ◌+◌, ◌-◌, ◌<◌, ◌≤◌, Bool, false, cond, ◌&&◌, ◌||◌, ◌⊎◌, List, [], ◌∷◌, ◌++◌, length, drop, Some, None, Option, nat_le, nat_lt}
use Rattle.std.specs.List.{slice_get}
use Rattle.caches.specs.declared.keys.Key.{Key}
use Rattle.caches.specs.Entries.{Entry, with_key, product_at}

-- taking changes nothing
abbrev pub Looks : Key → ℕ → List Entry → Option ℕ → List Entry → Type 0
Looks key k before r after = (r ≡ product_at key k before) × (after ≡ before)

-- nothing is kept
abbrev pub Declines : Entry → List Entry → Bool → List Entry → Type 0
Declines e before r after = (r ≡ false) × (after ≡ before)

-- how many answers all entries have
abbrev pub all_answers : List Entry → ℕ
all_answers [] = 0
all_answers (e ∷ es) = length e.answers + all_answers es

-- a keeper keeps an entry where neither 128 entries, nor 1,024 answers in all, nor 64 of one entry are passed
abbrev pub has_room : Entry → List Entry → Bool
has_room e es = nat_lt (length es) 128 && (nat_le (length e.answers) 64 && nat_le (all_answers es + length e.answers) 1024)

-- a keeper puts it behind the others
abbrev pub Keeps : Entry → List Entry → Bool → List Entry → Type 0
Keeps e before r after = (r ≡ has_room e before) × (after ≡ cond r (before ++ e ∷ []) before)

-- the last n
abbrev pub newest : {X : Type 0} → ℕ → List X → List X
newest n xs = drop (length xs - n) xs

-- a ring keeps every entry of at most 64 answers, and of all entries the 16 newest
abbrev pub Turns : Entry → List Entry → Bool → List Entry → Type 0
Turns e before r after = (r ≡ nat_le (length e.answers) 64) × (after ≡ cond r (newest 16 (before ++ e ∷ [])) before)

-- near is offered the entry that far gave, and stays as it is where far gave none
abbrev pub Handed : {N : Type 0} → (Entry → N → Bool → N → Type 0) → Option Entry → Option ℕ → N → N → Type 0
Handed adds_near it None n n' = n' ≡ n
Handed adds_near it (Some p) n n' = (e : Entry) × (it ≡ Some e) × ((b : Bool) × adds_near e n b n')

module _ {N F : Type 0} (adds_near : Entry → N → Bool → N → Type 0) where
  -- offered to both, and kept if either keeps it
  abbrev pub AddsBoth : (Entry → F → Bool → F → Type 0) → Entry → N → F → Bool → N → F → Type 0
  AddsBoth adds_far e n f r n' f' = (p : Bool) × (q : Bool) × adds_near e n p n' × adds_far e f q f' × (r ≡ (p || q))

  -- the k-th is taken from near, if it is among near's c entries of that key; else from far, and offered to near
  abbrev pub TakesEither : (Key → ℕ → N → Option ℕ → N → Type 0) → (Key → ℕ → F → Option ℕ → F → Type 0) → Key → ℕ → ℕ → List Entry → N → F → Option ℕ → N → F → Type 0
  TakesEither takes_near takes_far key k c far n f r n' f' =
      ((k < c) × takes_near key k n r n' × (f' ≡ f))
      ⊎ ((c ≤ k) × takes_far key (k - c) f r f' × Handed adds_near (slice_get (with_key key far) (k - c)) r n n')
