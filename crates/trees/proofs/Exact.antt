-- What is read is a binding as it should be. Assumes nothing.
use Rattle.std.proofs.Common.{◌≡◌, ℕ, ◌+◌, Bool, true, false, cond, ◌&&◌, leb, List, [], ◌∷◌, length, sym, refl, ap, ◌∙◌, subst, arith}
use Rattle.std.proofs.lemmas.Bool.{and_parts, and_from}
use mathlib.Core.Option.{Option, none, some}
use Rattle.values.specs.Values.{Name, Value, text, truth, binding, Members, nil, cons, same_name, before, mapped}
use Rattle.values.specs.Limits.{first_after, ordered, all_ordered, fit, named, all_named}
use Rattle.trees.specs.Lines.{Leaf, text_leaf, truth_leaf, empty_leaf, Line, line, Read, ok, bad, after, chain, at_end, put, into, within, step}
use Rattle.trees.specs.Files.{split, all_fit, leaf_of, line_from, line_of, done, refused, on_step, on_line, read_from, read_tree}
use Rattle.trees.proofs.Listed.{clash, after_ok}
use Rattle.trees.proofs.Spellings.{never, when_some, mapped_some}

record Fine (ms : Members) : Type 0 where
  ordered : all_ordered ms ≡ true
  named : all_named ms ≡ true

record FineValue (v : Value) : Type 0 where
  ordered : ordered v ≡ true
  named : named v ≡ true

fine_cons : (n : Name) (v : Value) (ms : Members) → fit n ≡ true → FineValue v → first_after n ms ≡ true → Fine ms → Fine (cons n v ms)
fine_cons n v ms f g a h = record {
  ordered = and_from (ordered v) (first_after n ms && all_ordered ms) g.ordered (and_from (first_after n ms) (all_ordered ms) a h.ordered);
  named = and_from (fit n) (named v && all_named ms) f (and_from (named v) (all_named ms) g.named h.named);
}

fine_nil : Fine nil
fine_nil = record { ordered = refl; named = refl }

record Parts (n : Name) (v : Value) (ms : Members) : Type 0 where
  fits : fit n ≡ true
  value : FineValue v
  first : first_after n ms ≡ true
  rest : Fine ms

parts : (n : Name) (v : Value) (ms : Members) → Fine (cons n v ms) → Parts n v ms
parts n v ms h =
    let o = and_parts (ordered v) (first_after n ms && all_ordered ms) h.ordered in
    let o2 = and_parts (first_after n ms) (all_ordered ms) o.1 in
    let q = and_parts (fit n) (named v && all_named ms) h.named in
    let q2 = and_parts (named v) (all_named ms) q.1 in
    record { fits = q.0; value = record { ordered = o.0; named = q2.0 }; first = o2.0; rest = record { ordered = o2.1; named = q2.1 } }

fine_chain : (p : List Name) (c : Leaf) → all_fit p ≡ true → FineValue (chain p c)
fine_chain [] (text_leaf s) f = record { ordered = refl; named = refl }
fine_chain [] (truth_leaf b) f = record { ordered = refl; named = refl }
fine_chain [] empty_leaf f = record { ordered = refl; named = refl }
fine_chain (n ∷ p) c f =
    let a = and_parts (fit n) (all_fit p) f in
    let g = fine_cons n (chain p c) nil a.0 (fine_chain p c a.1) refl fine_nil in
    record { ordered = g.ordered; named = g.named }

-- the first name stays
first_stays : (a : Name) (m : Name) (v : Value) (ms : Members) (n : Name) (p : List Name) (c : Leaf) (ws : Members) → put (cons m v ms) n p c ≡ ok ws → before a m ≡ true → first_after a ws ≡ true
first_stays a m v nil n p c ws e b = go (same_name n m) (before m n) e
  where
    go : (x y : Bool) → cond x (after (into v p c) (λ us. ok (cons m (binding us) nil))) (cond y (ok (cons m v (cons n (chain p c) nil))) (bad 9)) ≡ ok ws → first_after a ws ≡ true
    go true y e = let q = after_ok (into v p c) (λ us. ok (cons m (binding us) nil)) ws e in let w : cons m (binding q.0) nil ≡ ws = let f = q.2 in cc in sym (ap (first_after a) w) ∙ b
    go false true e = let w : cons m v (cons n (chain p c) nil) ≡ ws = cc in sym (ap (first_after a) w) ∙ b
    go false false e = clash e
first_stays a m v (cons m₂ v₂ ms) n p c ws e b =
    let q = after_ok (put (cons m₂ v₂ ms) n p c) (λ us. ok (cons m v us)) ws e in
    let w : cons m v q.0 ≡ ws = let f = q.2 in cc in sym (ap (first_after a) w) ∙ b

fine_end : (m : Name) (v : Value) (n : Name) (p : List Name) (c : Leaf) (ws : Members) → all_fit (n ∷ p) ≡ true → Fine (cons m v nil) → ((us : Members) → FineValue v → into v p c ≡ ok us → Fine us) → put (cons m v nil) n p c ≡ ok ws → Fine ws
fine_end m v n p c ws f h k e = go (same_name n m) (before m n) refl e
  where
    go : (x y : Bool) → before m n ≡ y → cond x (after (into v p c) (λ us. ok (cons m (binding us) nil))) (cond y (ok (cons m v (cons n (chain p c) nil))) (bad 9)) ≡ ok ws → Fine ws
    go true y b e =
        let q = after_ok (into v p c) (λ us. ok (cons m (binding us) nil)) ws e in
        let w : cons m (binding q.0) nil ≡ ws = let r = q.2 in cc in
        let a = parts m v nil h in
        let g = k q.0 a.value q.1 in
        subst Fine w (fine_cons m (binding q.0) nil a.fits (record { ordered = g.ordered; named = g.named }) refl fine_nil)
    go false true b e =
        let w : cons m v (cons n (chain p c) nil) ≡ ws = cc in
        let a = parts m v nil h in
        let f2 = and_parts (fit n) (all_fit p) f in
        subst Fine w (fine_cons m v (cons n (chain p c) nil) a.fits a.value b (fine_cons n (chain p c) nil f2.0 (fine_chain p c f2.1) refl fine_nil))
    go false false b e = clash e

fine_behind : (m : Name) (v : Value) (ms : Members) (n : Name) (p : List Name) (c : Leaf) (ws : Members) → all_fit (n ∷ p) ≡ true → Fine (cons m v ms) → ((us : Members) → FineValue v → into v p c ≡ ok us → Fine us) → ((us : Members) → Fine ms → put ms n p c ≡ ok us → Fine us) → put (cons m v ms) n p c ≡ ok ws → Fine ws
fine_behind m v nil n p c ws f h k r e = fine_end m v n p c ws f h k e
fine_behind m v (cons m₂ v₂ ms) n p c ws f h k r e =
    let q = after_ok (put (cons m₂ v₂ ms) n p c) (λ us. ok (cons m v us)) ws e in
    let w : cons m v q.0 ≡ ws = let x = q.2 in cc in
    let a = parts m v (cons m₂ v₂ ms) h in
    subst Fine w (fine_cons m v q.0 a.fits a.value (first_stays m m₂ v₂ ms n p c q.0 q.1 a.first) (r q.0 a.rest q.1))

fine_into : (ms : Members) (n : Name) (p : List Name) (c : Leaf) (ws : Members) → ((us : Members) → Fine ms → put ms n p c ≡ ok us → Fine us) → FineValue (binding ms) → at_end ms (bad 9) (put ms n p c) ≡ ok ws → Fine ws
fine_into nil n p c ws r h e = clash e
fine_into (cons m v ms) n p c ws r h e = r ws (record { ordered = h.ordered; named = h.named }) e

mutual
  put_fine : (ms : Members) (n : Name) (p : List Name) (c : Leaf) (ws : Members) → all_fit (n ∷ p) ≡ true → Fine ms → put ms n p c ≡ ok ws → Fine ws
  put_fine nil n p c ws f h e =
      let f2 = and_parts (fit n) (all_fit p) f in
      let w : cons n (chain p c) nil ≡ ws = cc in
      subst Fine w (fine_cons n (chain p c) nil f2.0 (fine_chain p c f2.1) refl fine_nil)
  put_fine (cons m v ms) n p c ws f h e = fine_behind m v ms n p c ws f h (λ us g. into_fine v p c us (and_parts (fit n) (all_fit p) f).1 g) (λ us g. put_fine ms n p c us f g) e

  into_fine : (v : Value) (p : List Name) (c : Leaf) (ws : Members) → all_fit p ≡ true → FineValue v → into v p c ≡ ok ws → Fine ws
  into_fine (text s) p c ws f h e = clash e
  into_fine (truth b) p c ws f h e = clash e
  into_fine (binding ms) [] c ws f h e = clash e
  into_fine (binding ms) (n ∷ p) c ws f h e = fine_into ms n p c ws (λ us g. put_fine ms n p c us f g) h e

abbrev fit_line : Line → Bool
fit_line (line p c) = all_fit p

line_fit : (ps : List (List ℕ)) (x : Line) → line_from ps ≡ some x → fit_line x ≡ true
line_fit [] x e = never e
line_fit (p ∷ []) x e = never e
line_fit (p ∷ k ∷ []) x e = never e
line_fit (p ∷ k ∷ c ∷ d ∷ ds) x e = never e
line_fit (p ∷ k ∷ c ∷ []) x e =
    let s = when_some (all_fit (split 47 p)) (mapped (line (split 47 p)) (leaf_of k c)) x e in
    let m = mapped_some (line (split 47 p)) (leaf_of k c) x s.1 in
    sym (ap fit_line m.2) ∙ s.0

record Right (ms : Members) : Type 0 where
  fine : Fine ms
  in_limits : within ms ≡ true

step_right : (l : Line) (ms ws : Members) → fit_line l ≡ true → Right ms → step l ms ≡ ok ws → Right ws
step_right (line [] c) ms ws f h e = clash e
step_right (line (n ∷ p) c) ms ws f h e =
    let q = after_ok (put ms n p c) (λ us. cond (within us) (ok us) (bad 10)) ws e in
    go q.0 (within q.0) refl q.1 q.2
  where
    go : (us : Members) (b : Bool) → within us ≡ b → put ms n p c ≡ ok us → cond b (ok us) (bad 10) ≡ ok ws → Right ws
    go us true w e g = let x : us ≡ ws = cc in subst Right x (record { fine = put_fine ms n p c us f h.fine e; in_limits = w })
    go us false w e g = clash g

read_right : (at : ℕ) (ms : Members) (ps : List (List ℕ)) (ws : Members) → Right ms → read_from at ms ps ≡ done ws → Right ws
read_right at ms [] ws h e = let z : ◌≡◌ {A = ℕ} 0 1 = cc in absurd (omega arith)
read_right at ms ([] ∷ []) ws h e = let w : ms ≡ ws = cc in subst Right w h
read_right at ms ((b ∷ bs) ∷ []) ws h e = let z : ◌≡◌ {A = ℕ} 0 1 = cc in absurd (omega arith)
read_right at ms (l ∷ m ∷ ps) ws h e = go (line_of l) refl e (λ us. read_right (at + length l + 1) us (m ∷ ps) ws)
  where
    next : (x : Line) → fit_line x ≡ true → (r : Read) → step x ms ≡ r → on_step at r (λ us. read_from (at + length l + 1) us (m ∷ ps)) ≡ done ws → ((us : Members) → Right us → read_from (at + length l + 1) us (m ∷ ps) ≡ done ws → Right ws) → Right ws
    next x s (bad y) q e k = let z : ◌≡◌ {A = ℕ} 0 1 = cc in absurd (omega arith)
    next x s (ok us) q e k = k us (step_right x ms us s h q) e

    go : (o : Option Line) → line_of l ≡ o → on_line at o ms (λ us. read_from (at + length l + 1) us (m ∷ ps)) ≡ done ws → ((us : Members) → Right us → read_from (at + length l + 1) us (m ∷ ps) ≡ done ws → Right ws) → Right ws
    go none q e k = let z : ◌≡◌ {A = ℕ} 0 1 = cc in absurd (omega arith)
    go (some x) q e k = next x (line_fit (split 9 l) x q) (step x ms) refl e k

pub proper : (bs : List ℕ) (ms : Members) → read_tree bs ≡ done ms → (all_ordered ms ≡ true) × (within ms ≡ true) × (all_named ms ≡ true)
proper bs ms = go (leb (length bs) 32768)
  where
    go : (b : Bool) → cond b (read_from 0 nil (split 10 bs)) (refused 1 0) ≡ done ms → (all_ordered ms ≡ true) × (within ms ≡ true) × (all_named ms ≡ true)
    go true e = let r = read_right 0 nil (split 10 bs) ms (record { fine = fine_nil; in_limits = refl }) e in (r.fine.ordered, r.in_limits, r.fine.named)
    go false e = let z : ◌≡◌ {A = ℕ} 0 1 = cc in absurd (omega arith)
