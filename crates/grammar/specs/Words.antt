-- Words that mean something of their own, and the names that functions and parameters may have. Assumes nothing.
use Rattle.std.specs.Prelude.{ℕ, Bool, true, false, not, ◌&&◌, ◌||◌, List, [], ◌∷◌, codes, ◌==◌, nat_le}
use Rattle.values.specs.Values.{Name, same_name}

-- whether a name stands in a list
abbrev pub one_of : List Name → Name → Bool
one_of [] w = false
one_of (v ∷ vs) w = same_name w v || one_of vs w

-- the words that no function and no parameter may be called by
abbrev pub reserved : Name → Bool
reserved = one_of (codes "if" ∷ codes "then" ∷ codes "else" ∷ codes "return" ∷ codes "key" ∷ codes "TRUE" ∷ codes "FALSE" ∷ [])

-- letters
abbrev pub letter : ℕ → Bool
letter b = (nat_le 65 b && nat_le b 90) || (nat_le 97 b && nat_le b 122)

-- letters, digits and `_`
abbrev pub plain_byte : ℕ → Bool
plain_byte b = letter b || ((nat_le 48 b && nat_le b 57) || b == 95)

-- such bytes only
abbrev pub plain_bytes : List ℕ → Bool
plain_bytes [] = true
plain_bytes (b ∷ bs) = plain_byte b && plain_bytes bs

-- a letter stands first
abbrev pub begins_with_letter : Name → Bool
begins_with_letter [] = false
begins_with_letter (b ∷ bs) = letter b

-- a name for a function or a parameter: letters, digits and `_`, a letter first, and not reserved
abbrev pub callable : Name → Bool
callable w = begins_with_letter w && (plain_bytes w && not (reserved w))
