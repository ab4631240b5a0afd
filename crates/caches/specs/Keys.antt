-- The order of keys. Assumes nothing.
use Rattle.std.specs.Prelude.{ℕ, suc, Bool, List, [], ◌∷◌, map, Some, None, Option}
use Rattle.std.specs.declared.cmp.Ordering.{Ordering}
use Rattle.std.specs.Cmp.{IsTotalOrder, on_total}
use Rattle.std.specs.Cmp.Lexicographic.{slice_cmp, nat_list_cmp_total}
use Rattle.std.specs.Ordering.{is_eq, nat_cmp}
use Rattle.caches.specs.declared.keys.Key.{Key}
use Rattle.caches.specs.declared.keys.Key.TheVariants.{Function, Tool}

-- the number of a value that may be missing
abbrev pub value_number : Option ℕ → ℕ
value_number None = 0
value_number (Some n) = suc n

-- the numbers of a key, from the kind on
abbrev pub key_numbers : Key → List ℕ
key_numbers (Function text values) = 0 ∷ text ∷ map value_number values
key_numbers (Tool name version command) = 1 ∷ name ∷ version ∷ command ∷ []

-- the first numbers that differ decide
abbrev pub key_order : Key → Key → Ordering
key_order a b = slice_cmp nat_cmp (key_numbers a) (key_numbers b)

abbrev pub same_key : Key → Key → Bool
same_key a b = is_eq (key_order a b)

-- the order of keys is total
pub key_total : IsTotalOrder key_order
key_total = on_total key_numbers nat_list_cmp_total
