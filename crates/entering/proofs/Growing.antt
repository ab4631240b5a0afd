-- What entering does to a table. Assumes nothing.
use Rattle.std.proofs.Common.{◌≡◌, ℕ, zero, suc, ◌≤◌, max, Bool, true, false, cond, List, [], ◌∷◌, ◌++◌, length, take, sym, refl, ap, ◌∙◌, append_assoc, append-nil, arith}
use mathlib.Core.Option.{Option, none, some}
use Rattle.std.proofs.lemmas.List.{take_at}
use Rattle.values.specs.Values.{Value, truth, same_value, and_then, nth}
use Rattle.values.specs.Table.{Table, holds, fits, entered}
use Rattle.trees.proofs.Splits.{no}
use Rattle.trees.proofs.Spellings.{never}
use Rattle.entering.specs.Entries.{enter_all}
use Rattle.entering.specs.Steps.{Extends}

pub unmoved : (T T' : Table) → T' ≡ T → Extends T T'
unmoved T T' e = record { more = []; is = e ∙ sym (append-nil T) }

pub further : (T U V : Table) → Extends T U → Extends U V → Extends T V
further T U V a b = record { more = a.more ++ b.more; is = b.is ∙ ap (λ l. l ++ b.more) a.is ∙ append_assoc T a.more b.more }

pub entered_extends : (v : Value) (T T' : Table) → entered v T ≡ some T' → Extends T T'
entered_extends v T T' = go (holds v T) (fits v T)
  where
    go : (a b : Bool) → cond a (some T) (cond b (some (T ++ v ∷ [])) none) ≡ some T' → Extends T T'
    go true b e = let w : T ≡ T' = cc in record { more = []; is = sym w ∙ sym (append-nil T) }
    go false true e = let w : T ++ v ∷ [] ≡ T' = cc in record { more = v ∷ []; is = sym w }
    go false false e = never e

-- some value, and then the others
then_some : (o : Option Table) (k : Table → Option Table) (T' : Table) → and_then o k ≡ some T' → (U : Table) × (o ≡ some U) × (k U ≡ some T')
then_some none k T' e = never e
then_some (some U) k T' e = (U, refl, e)

pub all_extends : (vs : List Value) (T T' : Table) → enter_all vs T ≡ some T' → Extends T T'
all_extends [] T T' e = let w : T ≡ T' = cc in record { more = []; is = sym w ∙ sym (append-nil T) }
all_extends (v ∷ vs) T T' e =
    let s = then_some (entered v T) (enter_all vs) T' e in
    further T s.0 T' (entered_extends v T s.0 s.1) (all_extends vs s.0 T' s.2)

pub all_append : (vs ws : List Value) (T : Table) → enter_all (vs ++ ws) T ≡ and_then (enter_all vs T) (enter_all ws)
all_append [] ws T = refl
all_append (v ∷ vs) ws T = go (entered v T) (all_append vs ws)
  where
    go : (o : Option Table) → ((U : Table) → enter_all (vs ++ ws) U ≡ and_then (enter_all vs U) (enter_all ws)) → and_then o (enter_all (vs ++ ws)) ≡ and_then (and_then o (enter_all vs)) (enter_all ws)
    go none h = refl
    go (some U) h = h U

pub on : (vs ws : List Value) (T U : Table) → enter_all vs T ≡ some U → enter_all (vs ++ ws) T ≡ enter_all ws U
on vs ws T U e = all_append vs ws T ∙ ap (λ o. and_then o (enter_all ws)) e

pub stopped : (vs ws : List Value) (T : Table) → enter_all vs T ≡ none → enter_all (vs ++ ws) T ≡ none
stopped vs ws T e = all_append vs ws T ∙ ap (λ o. and_then o (enter_all ws)) e

pub one : (v : Value) (T : Table) (o : Option Table) → entered v T ≡ o → enter_all (v ∷ []) T ≡ o
one v T none e = ap (λ x. and_then x (enter_all [])) e
one v T (some U) e = ap (λ x. and_then x (enter_all [])) e

-- a number keeps its value
nth_front : (T more : Table) (i : ℕ) (v : Value) → nth T i ≡ some v → nth (T ++ more) i ≡ some v
nth_front [] more i v e = never e
nth_front (x ∷ T) more zero v e = e
nth_front (x ∷ T) more (suc i) v e = nth_front T more i v e

pub kept : (T T' : Table) → Extends T T' → (i : ℕ) (v : Value) → nth T i ≡ some v → nth T' i ≡ some v
kept T T' x i v e = ap (λ U. nth U i) x.is ∙ nth_front T x.more i v e

-- a truth value that has a number is held
truth_same : (b : Bool) → same_value (truth b) (truth b) ≡ true
truth_same true = refl
truth_same false = refl

holds_later : (v w : Value) (T : Table) → holds v T ≡ true → holds v (w ∷ T) ≡ true
holds_later v w T e = go (same_value v w)
  where
    go : (x : Bool) → cond x true (holds v T) ≡ true
    go true = refl
    go false = e

holds_truth : (b : Bool) (T : Table) (i : ℕ) → nth T i ≡ some (truth b) → holds (truth b) T ≡ true
holds_truth b [] i e = never e
holds_truth b (x ∷ T) zero e = let w : x ≡ truth b = cc in ap (λ y. cond (same_value (truth b) y) true (holds (truth b) T)) w ∙ ap (λ y. cond y true (holds (truth b) T)) (truth_same b)
holds_truth b (x ∷ T) (suc i) e = holds_later (truth b) x T (holds_truth b T i e)

pub truth_entered : (b : Bool) (T : Table) (i : ℕ) → nth T i ≡ some (truth b) → enter_all (truth b ∷ []) T ≡ some T
truth_entered b T i e = one (truth b) T (some T) (ap (λ x. cond x (some T) (cond (fits (truth b) T) (some (T ++ truth b ∷ [])) none)) (holds_truth b T i e))

-- both truth values are two
pub two : (T : Table) (i j : ℕ) → nth T i ≡ some (truth true) → nth T j ≡ some (truth false) → 2 ≤ length T
two [] i j e f = never e
two (x ∷ y ∷ T) i j e f = omega arith
two (x ∷ []) (suc i) j e f = never e
two (x ∷ []) zero (suc j) e f = never f
two (x ∷ []) zero zero e f = let z : true ≡ false = cc in no z

-- a table taken back
pub back : (T T' : Table) → Extends T T' → 2 ≤ length T → take (max 2 (length T)) T' ≡ T
back T T' x h =
    let long : max 2 (length T) ≡ length T = omega arith in
    (λ j. take (long j) (x.is j)) ∙ take_at T x.more (length T) refl
