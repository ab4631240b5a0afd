-- The order of lists of numbers is what comparing slices answers. Assumes nothing.
use Rattle.std.proofs.Common.{◌≡◌, Bool, Some, cond, Ordering, Less, Equal, Greater, refl, arith}
use Rattle.std.specs.Cmp.Lexicographic.{slice_cmp, slice_partial_cmp}
use Rattle.std.specs.Ordering.{is_lt, is_eq, is_some_and, nat_cmp}
use Rattle.std.proofs.lemmas.Cmp.{same_from_slice_cmp, same_from_slice_cmp_tested}
use Rattle.std.proofs.lemmas.Bool.Decides.{nat_tests}
use Rattle.values.specs.Values.{Name, same_name, before}
use Rattle.values.specs.Order.{order}

is_same : (xs ys : Name) (o : Ordering) → o ≡ slice_cmp nat_cmp xs ys → is_eq o ≡ same_name xs ys
is_same = same_from_slice_cmp nat_cmp is_eq same_name refl (λ _ _. refl) (λ _ _. refl) (λ x y xs ys o h. grind (arith, nat_tests))

is_before : (xs ys : Name) (o : Ordering) → o ≡ slice_cmp nat_cmp xs ys → is_lt o ≡ before xs ys
is_before = same_from_slice_cmp nat_cmp is_lt before refl (λ _ _. refl) (λ _ _. refl) (λ x y xs ys o h. grind (arith, nat_tests))

-- the same for `<`
pub less : (xs ys : Name) (b : Bool) → b ≡ is_some_and is_lt (slice_partial_cmp (λ x y. Some (nat_cmp x y)) xs ys) → b ≡ before xs ys
less = same_from_slice_cmp_tested nat_cmp is_lt before refl (λ _ _. refl) (λ _ _. refl) (λ x y xs ys o h. grind (arith, nat_tests))

pub compared : (xs ys : Name) (o : Ordering) → o ≡ slice_cmp nat_cmp xs ys → o ≡ order xs ys
compared xs ys Less h = let e = is_same xs ys Less h in let f = is_before xs ys Less h in (λ j. cond (e j) Equal (cond (f j) Less Greater))
compared xs ys Equal h = let e = is_same xs ys Equal h in let f = is_before xs ys Equal h in (λ j. cond (e j) Equal (cond (f j) Less Greater))
compared xs ys Greater h = let e = is_same xs ys Greater h in let f = is_before xs ys Greater h in (λ j. cond (e j) Equal (cond (f j) Less Greater))
