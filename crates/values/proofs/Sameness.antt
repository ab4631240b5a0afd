-- Tests of sameness decide it, and what a table holds stands at a number. Assumes nothing.
use Rattle.std.proofs.Common.{◌≡◌, ℕ, zero, suc, ◌<◌, ◌≤◌, Bool, true, false, cond, ◌&&◌, List, [], ◌∷◌, ◌++◌, length, Decides, sym, refl, ap, ◌∙◌, arith, rules}
use mathlib.Core.Option.{none, some}
use Rattle.std.proofs.lemmas.Slice.Eq.{compares_Decides}
use Rattle.std.proofs.lemmas.Bool.{and_parts, and_from}
use Rattle.values.specs.Values.{Name, Value, text, truth, binding, Members, nil, cons, same_name, same_value, same_members, nth}
use Rattle.values.specs.Table.{holds, under}

pub name_test : (s t : Name) → Decides (same_name s t) (s ≡ t)
name_test = compares_Decides same_name (search rules)

pub clash : {P : Type 0} → true ≡ false → P
clash e = let z : ◌≡◌ {A = ℕ} 0 1 = cc in absurd (omega arith)

-- a test that cannot succeed fails
pub fails : (b : Bool) → (b ≡ true → ⊥) → b ≡ false
fails true h = absurd (h refl)
fails false h = refl

-- names that differ are not the same
pub differs : (s t : Name) → (s ≡ t → ⊥) → same_name s t ≡ false
differs s t h = fails (same_name s t) (λ e. h ((name_test s t).0 e))

mutual
  pub same_self : (v : Value) → same_value v v ≡ true
  same_self (text s) = (name_test s s).1 refl
  same_self (truth true) = refl
  same_self (truth false) = refl
  same_self (binding ms) = same_selves ms

  pub same_selves : (ms : Members) → same_members ms ms ≡ true
  same_selves nil = refl
  same_selves (cons n v ms) = and_from (same_name n n) (same_value v v && same_members ms ms) ((name_test n n).1 refl) (and_from (same_value v v) (same_members ms ms) (same_self v) (same_selves ms))

same_bool : (a b : Bool) → same_value (truth a) (truth b) ≡ true → a ≡ b
same_bool true true e = refl
same_bool true false e = clash (sym e)
same_bool false true e = clash (sym e)
same_bool false false e = refl

mutual
  pub same_is : (v w : Value) → same_value v w ≡ true → v ≡ w
  same_is (text s) (text t) e = ap text ((name_test s t).0 e)
  same_is (text s) (truth c) e = clash (sym e)
  same_is (text s) (binding ns) e = clash (sym e)
  same_is (truth b) (text t) e = clash (sym e)
  same_is (truth b) (truth c) e = ap truth (same_bool b c e)
  same_is (truth b) (binding ns) e = clash (sym e)
  same_is (binding ms) (text t) e = clash (sym e)
  same_is (binding ms) (truth c) e = clash (sym e)
  same_is (binding ms) (binding ns) e = ap binding (same_are ms ns e)

  pub same_are : (ms ns : Members) → same_members ms ns ≡ true → ms ≡ ns
  same_are nil nil e = refl
  same_are nil (cons n v ns) e = clash (sym e)
  same_are (cons m u ms) nil e = clash (sym e)
  same_are (cons m u ms) (cons n v ns) e =
      let a = and_parts (same_name m n) (same_value u v && same_members ms ns) e in
      let b = and_parts (same_value u v) (same_members ms ns) a.1 in
      let p = (name_test m n).0 a.0 in
      let q = same_is u v b.0 in
      let r = same_are ms ns b.1 in
      (λ j. cons (p j) (q j) (r j))

pub apart : (v w : Value) → (v ≡ w → ⊥) → same_value v w ≡ false
apart v w h = fails (same_value v w) (λ e. h (same_is v w e))

-- what stands under a number
pub nth_under : (T : List Value) (i : ℕ) → i < length T → nth T i ≡ some (under T i)
nth_under [] i h = absurd (omega arith)
nth_under (w ∷ T) zero h = refl
nth_under (w ∷ T) (suc i) h = nth_under T i (omega arith)

pub nth_past : (T : List Value) (i : ℕ) → length T ≤ i → nth T i ≡ none
nth_past [] i h = refl
nth_past (w ∷ T) zero h = absurd (omega arith)
nth_past (w ∷ T) (suc i) h = nth_past T i (omega arith)

pub under_nth : (T : List Value) (i : ℕ) (v : Value) → nth T i ≡ some v → (i < length T) × (under T i ≡ v)
under_nth [] i v e = let z : ◌≡◌ {A = ℕ} 0 1 = cc in absurd (omega arith)
under_nth (w ∷ T) zero v e = (omega arith, cc)
under_nth (w ∷ T) (suc i) v e = let r = under_nth T i v e in (omega arith, r.1)

pub holds_under : (T : List Value) (v : Value) (i : ℕ) → i < length T → under T i ≡ v → holds v T ≡ true
holds_under [] v i h e = absurd (omega arith)
holds_under (w ∷ T) v zero h e = ap (λ b. cond b true (holds v T)) (ap (same_value v) e ∙ same_self v)
holds_under (w ∷ T) v (suc i) h e = go (same_value v w) (holds_under T v i (omega arith) e)
  where
    go : (b : Bool) → holds v T ≡ true → cond b true (holds v T) ≡ true
    go true r = refl
    go false r = r

pub holds_number : (T : List Value) (v : Value) → holds v T ≡ true → (i : ℕ) × (i < length T) × (under T i ≡ v)
holds_number [] v e = clash (sym e)
holds_number (w ∷ T) v e = go (same_value v w) refl e (holds_number T v)
  where
    go : (b : Bool) → same_value v w ≡ b → cond b true (holds v T) ≡ true → (holds v T ≡ true → (i : ℕ) × (i < length T) × (under T i ≡ v)) → (i : ℕ) × (i < length (w ∷ T)) × (under (w ∷ T) i ≡ v)
    go true s h r = (0, omega arith, sym (same_is v w s))
    go false s h r = let p = r h in (suc p.0, omega arith, p.2)

pub one_more : (T : List Value) (v : Value) → nth (T ++ v ∷ []) (length T) ≡ some v
one_more [] v = refl
one_more (w ∷ T) v = one_more T v

-- an answer that decides sameness is the test of it
pub decided : (r : Bool) (s t : Name) → Decides r (s ≡ t) → r ≡ same_name s t
decided true s t d = sym ((name_test s t).1 (d.0 refl))
decided false s t d = go (same_name s t) refl
  where
    go : (b : Bool) → same_name s t ≡ b → false ≡ same_name s t
    go true e = d.1 ((name_test s t).0 e) ∙ sym e
    go false e = sym e
