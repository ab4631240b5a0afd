-- What a cache holds, and what its calls may answer. Assumes nothing.
use Rattle.std.specs.Prelude.{◌≡◌, ℕ, ◌<◌, ◌≤◌, Bool, true, false, ◌⊎◌, List, [], ◌∷◌, length, Some, None, Option}
use Rattle.std.specs.List.{filter, slice_get}
use Rattle.std.specs.Option.{option_map}
use Rattle.caches.specs.declared.keys.Key.{Key}
use Rattle.caches.specs.declared.questions.Answered.{Answered}
use Rattle.caches.specs.declared.offers.Offer.{Offer}
use Rattle.caches.specs.Keys.{same_key}

-- an entry: what was made under a key, with every question asked on the way and what was found
pub record Entry : Type 0 where
  pub key : Key
  pub product : ℕ
  pub answers : List Answered

abbrev pub entry : Key → ℕ → List Answered → Entry
entry k p qs = record { key = k; product = p; answers = qs }

-- the entry that is offered
abbrev pub offered : Offer → Entry
offered o = entry o.key o.product o.answers.now

-- the entries that have the key, in their order
abbrev pub with_key : Key → List Entry → List Entry
with_key k = filter (λ e. same_key e.key k)

abbrev pub answers_of : Option Entry → List Answered
answers_of None = []
answers_of (Some e) = e.answers

-- the answers of the k-th entry that has the key, none where there is no such entry
abbrev pub answers_at : Key → ℕ → List Entry → List Answered
answers_at key k es = answers_of (slice_get (with_key key es) k)

-- the product of the k-th entry that has the key
abbrev pub product_at : Key → ℕ → List Entry → Option ℕ
product_at key k es = option_map (λ (e : Entry). e.product) (slice_get (with_key key es) k)

abbrev pub Member : Entry → List Entry → Type 0
Member e [] = ⊥
Member e (x ∷ xs) = (e ≡ x) ⊎ Member e xs

-- every entry of the first list is in the second
abbrev pub Within : List Entry → List Entry → Type 0
Within after before = (e : Entry) → Member e after → Member e before

-- taken: the k-th entry that has the key gives its product and is held afterwards; nothing is held that was not before
abbrev pub Took : Key → ℕ → List Entry → Option ℕ → List Entry → Type 0
Took key k before None after = (slice_get (with_key key before) k ≡ None) × Within after before
Took key k before (Some p) after = ((e : Entry) × (slice_get (with_key key before) k ≡ Some e) × (e.product ≡ p) × Member e after) × Within after before

-- offered: what is held afterwards is the new entry or was held before; true says that the new one is held.
-- Over 64 answers are no entry, and change nothing
pub record Added (e : Entry) (before : List Entry) (r : Bool) (after : List Entry) : Type 0 where
  pub only : (x : Entry) → Member x after → (x ≡ e) ⊎ Member x before
  pub held : r ≡ true → Member e after
  pub long : 64 < length e.answers → (r ≡ false) × (after ≡ before)

-- every entry has at most 64 answers
abbrev pub AllShort : List Entry → Type 0
AllShort es = (e : Entry) → Member e es → length e.answers ≤ 64
