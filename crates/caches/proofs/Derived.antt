-- What derived comparisons answer: keys and lines compare as specs/Keys.antt and specs/Lines.antt say, and paths are equal where their names are. Assumes nothing.
use Rattle.std.proofs.Common.{◌≡◌, ℕ, suc, ◌-◌, ◌<◌, List, [], ◌∷◌, ◌++◌, map, length, take, Some, None, Option, nat_eq, Ordering, Less, Equal, Greater, sym, refl, ap, ◌∙◌, arith, length-take}
use Rattle.std.specs.Prelude.{replicate}
use Rattle.std.specs.Cmp.{nat_cmp_is, ranks}
use Rattle.std.specs.Cmp.Lexicographic.{slice_cmp, pointwise, bytes_decides}
use Rattle.std.specs.Option.{option_cmp}
use Rattle.std.specs.Ordering.{is_eq, ordering_then, MatchOrdering, nat_cmp}
use Rattle.std.proofs.lemmas.List.{take-append-drop}
use Rattle.std.proofs.lemmas.Bool.Decides.{Decides-and, Decides-eqb, Decides-like, same_from_decides}
use Rattle.caches.specs.declared.keys.Key.{Key}
use Rattle.caches.specs.declared.keys.Key.TheVariants.{Function, Tool}
use Rattle.caches.specs.declared.paths.Path.{Path}
use Rattle.caches.specs.contracts.keys.KeyOrd.TheImpl as key_ord
use Rattle.caches.specs.contracts.keys.KeyOrd.TheImpl.Laws.{matches_eq-law}
use Rattle.caches.specs.contracts.keys.KeyPartialEq.TheImpl as key_eq
use Rattle.caches.specs.contracts.keeper_slots.IndexedOrd.TheImpl as line_ord
use Rattle.caches.specs.contracts.paths.PathPartialEq.TheImpl as path_eq
use Rattle.caches.specs.Keys.{value_number, key_order, same_key}
use Rattle.caches.specs.Lines.{line_order}
use Rattle.caches.specs.Paths.{path_names, same_path, same_path_decides}

-- ---- keys

-- values compare as their numbers
rank_suc : (x y : ℕ) → nat_cmp x y ≡ nat_cmp (suc x) (suc y)
rank_suc x y = go (nat_cmp x y) (ranks x y)
  where
    go : (r : Ordering) → MatchOrdering r (x < y) (x ≡ y) (y < x) → r ≡ nat_cmp (suc x) (suc y)
    go Less h = nat_cmp_is (suc x) (suc y) Less (omega arith)
    go Equal h = nat_cmp_is (suc x) (suc y) Equal (omega arith)
    go Greater h = nat_cmp_is (suc x) (suc y) Greater (omega arith)

rank_value : (p q : Option ℕ) → option_cmp nat_cmp p q ≡ nat_cmp (value_number p) (value_number q)
rank_value None None = refl
rank_value None (Some y) = nat_cmp_is 0 (suc y) Less (omega arith)
rank_value (Some x) None = nat_cmp_is (suc x) 0 Greater (omega arith)
rank_value (Some x) (Some y) = rank_suc x y

lex_values : (ps qs : List (Option ℕ)) → slice_cmp (option_cmp nat_cmp) ps qs ≡ slice_cmp nat_cmp (map value_number ps) (map value_number qs)
lex_values [] [] = refl
lex_values [] (q ∷ qs) = refl
lex_values (p ∷ ps) [] = refl
lex_values (p ∷ ps) (q ∷ qs) = λ i. ordering_then (rank_value p q i) (lex_values ps qs i)

then_equal : (r : Ordering) → r ≡ ordering_then r Equal
then_equal Less = refl
then_equal Equal = refl
then_equal Greater = refl

-- `cmp` and `==` of keys answer by this order
pub key_cmp_is : (a b : Key) → (key_ord.ghosts).cmp a b ≡ key_order a b
key_cmp_is (Function t vs) (Function u ws) = ap (ordering_then (nat_cmp t u)) (lex_values vs ws)
key_cmp_is (Function t vs) (Tool n v c) = refl
key_cmp_is (Tool n v c) (Function t vs) = refl
key_cmp_is (Tool n v c) (Tool m w d) = ap (λ r. ordering_then (nat_cmp n m) (ordering_then (nat_cmp v w) r)) (then_equal (nat_cmp c d))

pub key_eq_is : (a b : Key) → (key_eq.ghosts).eq a b ≡ same_key a b
key_eq_is a b = matches_eq-law a b ∙ ap is_eq (key_cmp_is a b)

-- ---- lines of a keeper's index

-- `cmp` of lines answers by this order
pub line_cmp_is : line_order ≡ (line_ord.ghosts).cmp
line_cmp_is = λ i x y. ordering_then (sym (key_cmp_is x.key y.key) i) (nat_cmp x.entry y.entry)

-- ---- paths

names_same : (p q : Path) → path_names p ≡ path_names q → p.len ≡ q.len → p.names ≡ q.names
names_same p q e n =
    sym (take-append-drop p.len p.names) ∙ (λ i. e i ++ (p.unused ∙ ap (λ m. replicate (24 - m) 0) n ∙ sym q.unused) i) ∙ take-append-drop q.len q.names

lens_same : (p q : Path) → path_names p ≡ path_names q → p.len ≡ q.len
lens_same p q e = omega (arith, ap length e, length-take p.len p.names, length-take q.len q.names, p.few, q.few, p.long, q.long)

-- `==` of paths answers by it
pub path_eq_is : (p q : Path) → (path_eq.ghosts).eq p q ≡ same_path p q
path_eq_is p q =
    same_from_decides ((path_eq.ghosts).eq p q) (same_path p q)
    (Decides-like _ (λ (w : (p.names ≡ q.names) × (p.len ≡ q.len)) i. take (w.1 i) (w.0 i)) (λ e. (names_same p q e (lens_same p q e), lens_same p q e))
    (Decides-and (pointwise nat_eq p.names q.names) (nat_eq p.len q.len) (bytes_decides p.names q.names) (Decides-eqb p.len q.len)))
    (same_path_decides p q)
