-- Numbers of members, and the members that they stand for. Assumes nothing.
use Rattle.std.proofs.Common.{◌≡◌, ℕ, zero, suc, ◌<◌, ◌≤◌, Bool, true, false, ◌&&◌, ltb, leb, List, [], ◌∷◌, length, MatchBool, Ok, Err, Result, sym, refl, ap, ◌∙◌, subst, arith}
use Rattle.std.proofs.lemmas.Bool.{and_parts, and_from}
use mathlib.Core.Option.{none, some}
use Rattle.std.specs.Result.{IsErr, MatchResult}
use Rattle.std.proofs.lemmas.Bool.Decides.{nat_tests}
use Rattle.values.specs.Values.{Name, Value, text, binding, Members, nil, cons, before, nth}
use Rattle.values.specs.Limits.{fit, many, height, first_after, ordered, all_ordered, named, all_named}
use Rattle.values.specs.Table.{Table, under, spelt, is_text, members_of, known, next_after, well_named, Enters, Refuses, EntersBinding}
use Rattle.values.specs.declared.parts.Member.{Member}
use Rattle.values.specs.declared.parts.Unentered.{Unentered}
use Rattle.values.specs.declared.parts.Unentered.TheVariants.{TooMany, TooHigh, Unfit}
use Rattle.trees.proofs.Splits.{no}
use Rattle.trees.proofs.Spellings.{never}
use Rattle.entering.specs.Steps.{Stands, Ready, EntersEach}
use Rattle.entering.specs.declared.answers.Full.{Full}
use Rattle.entering.proofs.Growing.{one, unmoved}

there : (T : Table) (i : ℕ) (v : Value) → nth T i ≡ some v → (ltb i (length T) ≡ true) × (under T i ≡ v)
there T i v e = (let h = inside T i v e in grind (arith, nat_tests), found T i v e)
  where
    inside : (T : Table) (i : ℕ) (v : Value) → nth T i ≡ some v → i < length T
    inside [] i v e = never e
    inside (x ∷ T) zero v e = omega arith
    inside (x ∷ T) (suc i) v e = let h = inside T i v e in omega arith

    found : (T : Table) (i : ℕ) (v : Value) → nth T i ≡ some v → under T i ≡ v
    found [] i v e = never e
    found (x ∷ T) zero v e = cc
    found (x ∷ T) (suc i) v e = found T i v e

stands_length : (T : Table) (l : List Member) (ms : Members) → Stands T l ms → length l ≡ many ms
stands_length T [] nil s = refl
stands_length T [] (cons n v ms) s = absurd s
stands_length T (m ∷ l) nil s = absurd s
stands_length T (m ∷ l) (cons n v ms) s = ap suc (stands_length T l ms s.2)

stands_known : (T : Table) (l : List Member) (ms : Members) → Stands T l ms → known T l ≡ true
stands_known T [] nil s = refl
stands_known T [] (cons n v ms) s = absurd s
stands_known T (m ∷ l) nil s = absurd s
stands_known T (m ∷ l) (cons n v ms) s =
    let a = there T m.name (text n) s.0 in
    let b = there T m.value v s.1 in
    and_from (ltb m.name (length T)) (is_text (under T m.name) && (ltb m.value (length T) && known T l)) a.0
    (and_from (is_text (under T m.name)) (ltb m.value (length T) && known T l) (ap is_text a.1)
    (and_from (ltb m.value (length T)) (known T l) b.0 (stands_known T l ms s.2)))

pub stands_members : (T : Table) (l : List Member) (ms : Members) → Stands T l ms → members_of T l ≡ ms
stands_members T [] nil s = refl
stands_members T [] (cons n v ms) s = absurd s
stands_members T (m ∷ l) nil s = absurd s
stands_members T (m ∷ l) (cons n v ms) s =
    let a = there T m.name (text n) s.0 in
    let b = there T m.value v s.1 in
    (λ j. cons (spelt (a.1 j)) (b.1 j) (stands_members T l ms s.2 j))

stands_next : (T : Table) (n : Name) (l : List Member) (ms : Members) → Stands T l ms → next_after T n l ≡ first_after n ms
stands_next T n [] nil s = refl
stands_next T n [] (cons m v ms) s = absurd s
stands_next T n (k ∷ l) nil s = absurd s
stands_next T n (k ∷ l) (cons m v ms) s = ap (λ w. before n (spelt w)) (there T k.name (text m) s.0).1

stands_named : (T : Table) (l : List Member) (ms : Members) → Stands T l ms → all_ordered ms ≡ true → all_named ms ≡ true → well_named T l ≡ true
stands_named T [] nil s o f = refl
stands_named T [] (cons n v ms) s o f = absurd s
stands_named T (m ∷ l) nil s o f = absurd s
stands_named T (m ∷ l) (cons n v ms) s o f =
    let is : spelt (under T m.name) ≡ n = ap spelt (there T m.name (text n) s.0).1 in
    let f1 = and_parts (fit n) (named v && all_named ms) f in
    let f2 = and_parts (named v) (all_named ms) f1.1 in
    let o1 = and_parts (ordered v) (first_after n ms && all_ordered ms) o in
    let o2 = and_parts (first_after n ms) (all_ordered ms) o1.1 in
    and_from (fit (spelt (under T m.name))) (next_after T (spelt (under T m.name)) l && well_named T l) (ap fit is ∙ f1.0)
    (and_from (next_after T (spelt (under T m.name)) l) (well_named T l) (ap (λ k. next_after T k l) is ∙ stands_next T n l ms s.2 ∙ o2.0) (stands_named T l ms s.2 o2.1 f2.1))

-- a test that holds picks the first
pub picked : (b : Bool) (P Q : Type 0) → b ≡ true → MatchBool b P Q → P
picked true P Q e h = h
picked false P Q e h = no (sym e)

-- members that are ready are entered, or find no room
pub ready_enters : (T : Table) (l : List Member) (ms : Members) → Ready T l ms → (r : Result ℕ Unentered) (T' : Table) → EntersBinding l T r T' → Enters (binding ms) T r T'
ready_enters T l ms y r T' h =
    let few : leb (length l) 64 ≡ true = let e = stands_length T l ms y.stands in let k = y.few in grind (arith, nat_tests) in
    let is = stands_members T l ms y.stands in
    let low : leb (height (binding (members_of T l))) 16 ≡ true = ap (λ ns. leb (height (binding ns)) 16) is ∙ at_most (height (binding ms)) 16 y.low in
    let fine : (known T l && well_named T l) ≡ true = and_from (known T l) (well_named T l) (stands_known T l ms y.stands) (stands_named T l ms y.stands y.are_ordered y.are_named) in
    let whole = Enters (binding (members_of T l)) T r T' in
    let high = MatchBool (leb (height (binding (members_of T l))) 16) whole (Refuses TooHigh T r T') in
    let checked = MatchBool (known T l && well_named T l) high (Refuses Unfit T r T') in
    subst (λ ns. Enters (binding ns) T r T') is
    (picked (leb (height (binding (members_of T l))) 16) whole (Refuses TooHigh T r T') low
    (picked (known T l && well_named T l) high (Refuses Unfit T r T') fine (picked (leb (length l) 64) checked (Refuses TooMany T r T') few h)))
  where
    at_most : (a b : ℕ) → a ≤ b → leb a b ≡ true
    at_most a b k = grind (arith, nat_tests)

pub entering : (T : Table) (l : List Member) (ms ns : Members) → Ready T l ms → Stands T l ns → (r : Result ℕ Unentered) (T' : Table) → EntersBinding l T r T' → Enters (binding ns) T r T'
entering T l ms ns y s r T' h =
    subst (λ ks. Enters (binding ks) T r T') (sym (stands_members T l ms y.stands) ∙ stands_members T l ns s) (ready_enters T l ms y r T' h)

-- the same, told with less: all that can be missing is room
pub told : (T : Table) (ms : Members) (r : Result ℕ Unentered) (q : Result ℕ Full) (T' : Table) → MatchResult r (λ i. q ≡ Ok i) (λ e. IsErr q) → Enters (binding ms) T r T' → EntersEach (binding ms ∷ []) (binding ms) T q T'
told T ms (Ok i) q T' e h = subst (λ q. EntersEach (binding ms ∷ []) (binding ms) T q T') (sym e) (one (binding ms) T (some T') h.0, h.1)
told T ms (Err u) (Ok i) T' e h = no (sym e)
told T ms (Err u) (Err f) T' e h = (one (binding ms) T none h.0, unmoved T T' h.2)
