-- An accepted tree is listed, and the table taken back. Assumes nothing.
use Rattle.std.proofs.Common.{◌≡◌, ℕ, ◌≤◌, max, true, leb, List, ◌++◌, length, take, drop, Ok, Err, MatchBool, Result, refl, ap, ◌∙◌, subst, arith}
use mathlib.Core.Option.{Option, some}
use Rattle.std.proofs.lemmas.Bool.Decides.{nat_tests}
use Rattle.std.proofs.lemmas.List.{take_at, take-take, take-append-le, length-take}
use Rattle.values.specs.Values.{Value}
use Rattle.values.specs.Table.{Table}
use Rattle.values.specs.Memory.{values}
use Rattle.values.specs.declared.store.Table.{Table as Store}
use Rattle.values.proofs.InMemory.{truths_of}
use Rattle.trees.specs.Files.{listing}
use Rattle.listing.specs.Lists.{Lists, Writes, Refuses}
use Rattle.listing.specs.declared.answers.Unlisted.{Unlisted}
use Rattle.listing.specs.declared.answers.Unlisted.TheVariants.{ShortBuffer}
use Rattle.entering.specs.Entries.{enter_all}
use Rattle.entering.proofs.Growing.{all_extends, two, back}

-- a listing that has room is written
pub is_listed : (v : Value) (bs old new : List ℕ) (o : Option Value) (r : Result ℕ Unlisted) → o ≡ some v → listing v ≡ bs → length bs ≤ length old → Lists o old r new → (r ≡ Ok (length bs)) × (take (length bs) new ≡ bs)
is_listed v bs old new o r e f l h =
    let at = subst (λ x. Lists x old r new) e h in
    let room : leb (length (listing v)) (length old) ≡ true = ap (λ x. leb (length x) (length old)) f ∙ fits (length bs) (length old) l in
    let w = subst (λ b. MatchBool b (Writes (listing v) old r new) (Refuses ShortBuffer old r new)) room at in
    let written : new ≡ bs ++ drop (length bs) old = w.1 ∙ (λ j. f j ++ drop (length (f j)) old) in
    (w.0 ∙ ap (λ x. Ok (length x)) f, ap (take (length bs)) written ∙ take_at bs (drop (length bs) old) (length bs) refl)
  where
    fits : (a b : ℕ) → a ≤ b → leb a b ≡ true
    fits a b h = grind (arith, nat_tests)

-- a table that only grew is taken back
pub taken_back : (t : Store) (vs : List Value) (T' T'' : Table) (len : ℕ) → enter_all vs (values t) ≡ some T' → len ≡ length (values t) → T'' ≡ take (max 2 len) T' → T'' ≡ values t
taken_back t vs T' T'' len e l f =
    let truths = truths_of t in
    f ∙ ap (λ n. take (max 2 n) T') l ∙ back (values t) T' (all_extends vs (values t) T' e) (two (values t) 0 1 truths.0 truths.1)

-- where the answer is that nothing is written, there was no room
pub not_listed : (v : Value) (bs old new : List ℕ) (o : Option Value) (e : Unlisted) → o ≡ some v → listing v ≡ bs → length bs ≤ length old → Lists o old (Err e) new → ⊥
not_listed v bs old new o e p q l h = let w = (is_listed v bs old new o (Err e) p q l h).0 in let z : ◌≡◌ {A = ℕ} 0 1 = cc in omega arith

-- the front of a buffer whose first bytes were written
pub front_is : (bs new rest : List ℕ) (n m : ℕ) → n ≡ length bs → n ≤ m → take (length bs) new ≡ bs → take n (take m (new ++ rest)) ≡ bs
front_is bs new rest n m e l f =
    let held = ap length f in
    let whole = length-take (length bs) new in
    let k : n ≤ length new = grind (arith, nat_tests) in
    take-take n m (new ++ rest) l ∙ take-append-le n new rest k ∙ ap (λ i. take i new) e ∙ f
