-- The order of contents, and what reading a number tells. Assumes nothing.
use Rattle.std.proofs.Common.{◌≡◌, true, false, cond, List, Ordering, Less, Equal, Greater, refl, arith}
use Rattle.std.specs.Cmp.Lexicographic.{slice_cmp}
use Rattle.std.specs.Ordering.{is_lt, is_eq}
use Rattle.std.proofs.lemmas.Cmp.{same_from_slice_cmp}
use Rattle.std.proofs.lemmas.Bool.Decides.{nat_tests}
use Rattle.values.specs.Values.{same_name, before}
use Rattle.values.specs.Order.{order}
use Rattle.values.specs.Index.{numbers, binding_key, content_key}
use Rattle.values.specs.declared.parts.Member.{Member}
use Rattle.values.specs.declared.parts.Content.{Content}
use Rattle.values.specs.declared.parts.Content.TheVariants.{Truth, Text, Binding}
use Rattle.values.specs.contracts.parts.MemberOrd.TheImpl as member
use Rattle.values.specs.contracts.parts.ContentOrd.TheImpl as content
use Rattle.values.proofs.Orders.{compared}

is_same : (xs ys : List Member) (o : Ordering) → o ≡ slice_cmp member.ghosts.cmp xs ys → is_eq o ≡ same_name (numbers xs) (numbers ys)
is_same = same_from_slice_cmp member.ghosts.cmp is_eq (λ xs ys. same_name (numbers xs) (numbers ys)) refl (λ _ _. refl) (λ _ _. refl) (λ x y xs ys o h. grind (arith, nat_tests))

is_before : (xs ys : List Member) (o : Ordering) → o ≡ slice_cmp member.ghosts.cmp xs ys → is_lt o ≡ before (numbers xs) (numbers ys)
is_before = same_from_slice_cmp member.ghosts.cmp is_lt (λ xs ys. before (numbers xs) (numbers ys)) refl (λ _ _. refl) (λ _ _. refl) (λ x y xs ys o h. grind (arith, nat_tests))

members_compared : (xs ys : List Member) (o : Ordering) → o ≡ slice_cmp member.ghosts.cmp xs ys → o ≡ order (binding_key xs) (binding_key ys)
members_compared xs ys Less h = let e = is_same xs ys Less h in let f = is_before xs ys Less h in (λ j. cond (e j) Equal (cond (f j) Less Greater))
members_compared xs ys Equal h = let e = is_same xs ys Equal h in let f = is_before xs ys Equal h in (λ j. cond (e j) Equal (cond (f j) Less Greater))
members_compared xs ys Greater h = let e = is_same xs ys Greater h in let f = is_before xs ys Greater h in (λ j. cond (e j) Equal (cond (f j) Less Greater))

-- contents stand in the order of their keys
pub ordered_by_keys : (a b : Content) → content.ghosts.cmp a b ≡ order (content_key a) (content_key b)
ordered_by_keys (Truth true) (Truth true) = refl
ordered_by_keys (Truth true) (Truth false) = refl
ordered_by_keys (Truth false) (Truth true) = refl
ordered_by_keys (Truth false) (Truth false) = refl
ordered_by_keys (Truth a) (Text t) = refl
ordered_by_keys (Truth a) (Binding ns) = refl
ordered_by_keys (Text s) (Truth b) = refl
ordered_by_keys (Text s) (Text t) = compared s.now t.now _ refl
ordered_by_keys (Text s) (Binding ns) = refl
ordered_by_keys (Binding ms) (Truth b) = refl
ordered_by_keys (Binding ms) (Text t) = refl
ordered_by_keys (Binding ms) (Binding ns) = members_compared ms.now ns.now _ refl
