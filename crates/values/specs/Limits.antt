-- What makes a value proper: fit names in order, and the limits of texts, members and heights. Assumes nothing.
use Rattle.std.specs.Prelude.{ℕ, suc, max, Bool, true, not, ◌&&◌, ◌||◌, List, [], ◌∷◌, length, ◌==◌, nat_le}
use Rattle.values.specs.Values.{Name, Value, text, truth, binding, Members, nil, cons, same_name, before}

-- letters, digits, `_`, `.` and `-`
abbrev pub name_byte : ℕ → Bool
name_byte b = (nat_le 48 b && nat_le b 57) || ((nat_le 65 b && nat_le b 90) || ((nat_le 97 b && nat_le b 122) || (b == 95 || (b == 46 || b == 45))))

abbrev pub name_bytes : List ℕ → Bool
name_bytes [] = true
name_bytes (b ∷ bs) = name_byte b && name_bytes bs

-- `.` and `..`
abbrev pub dots : List ℕ → Bool
dots n = same_name n (46 ∷ []) || same_name n (46 ∷ 46 ∷ [])

-- a name has 1 to 32 such bytes, and is neither `.` nor `..`
abbrev pub fit : Name → Bool
fit n = nat_le 1 (length n) && (nat_le (length n) 32 && (not (dots n) && name_bytes n))

-- how many members a binding has
abbrev pub many : Members → ℕ
many nil = 0
many (cons n v ms) = suc (many ms)

-- a binding's height is 1, or 1 more than its highest binding member's; that of any other value is 0
abbrev mutual
  pub height : Value → ℕ
  height (text s) = 0
  height (truth b) = 0
  height (binding ms) = suc (heights ms)

  pub heights : Members → ℕ
  heights nil = 0
  heights (cons n v ms) = max (height v) (heights ms)

-- every text has at most 1,024 bytes, every binding at most 64 members
abbrev mutual
  pub small : Value → Bool
  small (text s) = nat_le (length s) 1024
  small (truth b) = true
  small (binding ms) = nat_le (many ms) 64 && all_small ms

  pub all_small : Members → Bool
  all_small nil = true
  all_small (cons n v ms) = small v && all_small ms

-- the first of the members stands after a name
abbrev pub first_after : Name → Members → Bool
first_after n nil = true
first_after n (cons m v ms) = before n m

-- names ascend in every binding
abbrev mutual
  pub ordered : Value → Bool
  ordered (text s) = true
  ordered (truth b) = true
  ordered (binding ms) = all_ordered ms

  pub all_ordered : Members → Bool
  all_ordered nil = true
  all_ordered (cons n v ms) = ordered v && (first_after n ms && all_ordered ms)

-- every member's name is fit
abbrev mutual
  pub named : Value → Bool
  named (text s) = true
  named (truth b) = true
  named (binding ms) = all_named ms

  pub all_named : Members → Bool
  all_named nil = true
  all_named (cons n v ms) = fit n && (named v && all_named ms)

-- a value by the rules
abbrev pub proper : Value → Bool
proper v = nat_le (height v) 16 && (small v && (ordered v && named v))
