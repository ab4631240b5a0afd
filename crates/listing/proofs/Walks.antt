-- The lines of members and values, piece by piece. Assumes nothing.
use Rattle.std.proofs.Common.{◌≡◌, ℕ, zero, suc, ◌<◌, ◌≤◌, true, List, [], ◌∷◌, ◌++◌, map, length, get_or, Some, sym, refl, ap, ◌∙◌, append_assoc, append-nil, arith}
use mathlib.Core.Option.{none, some}
use Rattle.std.specs.List.{flat_map as flat}
use Rattle.std.proofs.lemmas.List.{map-append}
use Rattle.std.proofs.lemmas.Bool.Decides.{nat_tests}
use Rattle.values.specs.declared.parts.Member.{Member}
use Rattle.values.specs.declared.parts.Content.{Content}
use Rattle.values.specs.declared.parts.Content.TheVariants.{Truth, Text, Binding}
use Rattle.values.specs.Values.{Name, Value, binding, nth}
use Rattle.values.specs.Limits.{height, heights}
use Rattle.values.specs.Table.{under, members_of, known, content_value, shown, known_content}
use Rattle.trees.specs.Lines.{Leaf, Line, line, below, lines, lines_of}
use Rattle.trees.specs.Files.{kind_mark, content, joined, written, line_bytes}
use Rattle.listing.specs.Pieces.{spelling, spellings, ending, held, leaf_of, deeper}

-- a line is its path and its end
pub line_parts : (p : List Name) (c : Leaf) → joined 47 p ++ ending c ≡ written (line p c ∷ [])
line_parts p c =
    ap (λ l. joined 47 p ++ 9 ∷ l) (sym (append_assoc (kind_mark c) (9 ∷ content c) (10 ∷ [])))
    ∙ sym (append_assoc (joined 47 p) (9 ∷ (kind_mark c ++ 9 ∷ content c)) (10 ∷ []))

pub written_append : (ls ks : List Line) → written (ls ++ ks) ≡ written ls ++ written ks
written_append [] ks = refl
written_append (l ∷ ls) ks =
    ap (λ r. line_bytes l ++ 10 ∷ r) (written_append ls ks) ∙ sym (append_assoc (line_bytes l) (10 ∷ written ls) (written ks))

-- a name more on the path
deeper_below : (p : List Name) (n : Name) (l : Line) → deeper p (below n l) ≡ deeper (p ++ n ∷ []) l
deeper_below p n (line q c) = ap (λ r. line r c) (sym (append_assoc p (n ∷ []) q))

deeper_belows : (p : List Name) (n : Name) (ls : List Line) → map (deeper p) (map (below n) ls) ≡ map (deeper (p ++ n ∷ [])) ls
deeper_belows p n [] = refl
deeper_belows p n (l ∷ ls) = λ j. deeper_below p n l j ∷ deeper_belows p n ls j

-- the bytes of a value, of a member
abbrev pub value_bytes : List Name → Value → List ℕ
value_bytes p v = written (map (deeper p) (lines v))

abbrev pub member_bytes : List Value → List Name → Member → List ℕ
member_bytes T p m = value_bytes (p ++ spelling T m.name ∷ []) (under T m.value)

pub members_flat : (T : List Value) (p : List Name) (ms : List Member) → flat (member_bytes T p) ms ≡ written (map (deeper p) (lines_of (members_of T ms)))
members_flat T p [] = refl
members_flat T p (m ∷ ms) =
    let n = spelling T m.name in
    let ls = lines (under T m.value) in
    let ks = lines_of (members_of T ms) in
    (λ j. written (sym (deeper_belows p n ls) j) ++ members_flat T p ms j)
    ∙ sym (written_append (map (deeper p) (map (below n) ls)) (map (deeper p) ks))
    ∙ ap written (sym (map-append (deeper p) (map (below n) ls) ks))

-- the path to a member
pub path_below : (T : List Value) (ns ms : List ℕ) (n : ℕ) → ms ≡ ns ++ n ∷ [] → spellings T ms ≡ spellings T ns ++ spelling T n ∷ []
path_below T ns ms n e = ap (spellings T) e ∙ map-append (spelling T) ns (n ∷ [])

-- a value with no members
pub leaf_line : (T : List Value) (p : List Name) (c : Content) → length (held c) ≡ 0 → written (line p (leaf_of c) ∷ []) ≡ value_bytes p (content_value T c)
leaf_line T p (Truth b) e = ap (λ q. written (line q (leaf_of (Truth b)) ∷ [])) (sym (append-nil p))
leaf_line T p (Text s) e = ap (λ q. written (line q (leaf_of (Text s)) ∷ [])) (sym (append-nil p))
leaf_line T p (Binding ms) e = go ms.now e
  where
    go : (l : List Member) → length l ≡ 0 → written (line p (leaf_of (Binding ms)) ∷ []) ≡ value_bytes p (binding (members_of T l))
    go [] e = ap (λ q. written (line q (leaf_of (Binding ms)) ∷ [])) (sym (append-nil p))
    go (m ∷ l) e = absurd (omega arith)

-- a value with members
pub node_lines : (T : List Value) (c : Content) → 0 < length (held c) → (lines (content_value T c) ≡ lines_of (members_of T (held c))) × (height (content_value T c) ≡ suc (heights (members_of T (held c))))
node_lines T (Truth b) h = absurd (omega arith)
node_lines T (Text s) h = absurd (omega arith)
node_lines T (Binding ms) h = (go ms.now h, refl)
  where
    go : (l : List Member) → 0 < length l → lines (binding (members_of T l)) ≡ lines_of (members_of T l)
    go [] h = absurd (omega arith)
    go (m ∷ l) h = refl

pub held_known : (T : List Value) (c : Content) → known_content T (Some c) ≡ true → known T (held c) ≡ true
held_known T (Truth b) e = refl
held_known T (Text s) e = refl
held_known T (Binding ms) e = e

-- what stands under a number of the table
pub nth_under : (T : List Value) (i : ℕ) → i < length T → nth T i ≡ some (under T i)
nth_under [] i h = absurd (omega arith)
nth_under (v ∷ T) zero h = refl
nth_under (v ∷ T) (suc i) h = nth_under T i (omega arith)

pub shown_under : (T : List Value) (i : ℕ) (c : Content) → i < length T → shown T (Some c) ≡ nth T i → content_value T c ≡ under T i
shown_under T i c h e = let f : some (content_value T c) ≡ some (under T i) = e ∙ nth_under T i h in cc

pub never_none : (T : List Value) (i : ℕ) → i < length T → none ≡ nth T i → ⊥
never_none T i h e = let f : none ≡ some (under T i) = e ∙ nth_under T i h in let z : ◌≡◌ {A = ℕ} 0 1 = cc in omega arith

-- a member of known members
pub member_known : (T : List Value) (ms : List Member) (i : ℕ) (d : Member) → known T ms ≡ true → i < length ms → (get_or ms i d).value < length T
member_known T [] i d k h = absurd (omega arith)
member_known T (m ∷ ms) zero d k h = grind (arith, nat_tests)
member_known T (m ∷ ms) (suc i) d k h = member_known T ms i d (grind (arith, nat_tests)) (omega arith)

pub member_height : (T : List Value) (ms : List Member) (i : ℕ) (d : Member) → i < length ms → height (under T (get_or ms i d).value) ≤ heights (members_of T ms)
member_height T [] i d h = absurd (omega arith)
member_height T (m ∷ ms) zero d h = omega arith
member_height T (m ∷ ms) (suc i) d h = let r = member_height T ms i d (omega arith) in omega (arith, r)
