-- Lines that are taken up are those of the binding that they make. Assumes nothing.
use Rattle.std.proofs.Common.{◌≡◌, ℕ, Bool, true, false, cond, List, [], ◌∷◌, ◌++◌, map, sym, refl, ap, ◌∙◌, append_assoc, append-nil, arith}
use Rattle.std.proofs.lemmas.List.{map-append}
use Rattle.values.specs.Values.{Name, Value, text, truth, binding, Members, nil, cons, same_name, before}
use Rattle.values.proofs.Sameness.{name_test}
use Rattle.trees.specs.Lines.{Leaf, text_leaf, truth_leaf, empty_leaf, Line, line, below, lines, some_lines, lines_of, Read, ok, bad, after, chain, at_end, put, into, within, step, fill}

pub clash : {P : Type 0} {e : ℕ} {ms : Members} → bad e ≡ ok ms → P
clash q = let z : ◌≡◌ {A = ℕ} 0 1 = cc in absurd (omega arith)

-- a chain of readings that ended well
pub after_ok : (r : Read) (k : Members → Read) (ws : Members) → after r k ≡ ok ws → (ms : Members) × (r ≡ ok ms) × (k ms ≡ ok ws)
after_ok (ok ms) k ws e = (ms, refl, e)
after_ok (bad x) k ws e = clash e

chain_lines : (p : List Name) (c : Leaf) → lines (chain p c) ≡ line p c ∷ []
chain_lines [] (text_leaf s) = refl
chain_lines [] (truth_leaf b) = refl
chain_lines [] empty_leaf = refl
chain_lines (n ∷ p) c = append-nil (map (below n) (lines (chain p c))) ∙ ap (map (below n)) (chain_lines p c)

lines_end : (n : Name) (v : Value) → lines_of (cons n v nil) ≡ map (below n) (lines v)
lines_end n v = append-nil (map (below n) (lines v))

nothing : (ls : List Line) (l : Line) {P : Type 0} → [] ≡ ls ++ l ∷ [] → P
nothing [] l e = let z : ◌≡◌ {A = ℕ} 0 1 = cc in absurd (omega arith)
nothing (k ∷ ls) l e = let z : ◌≡◌ {A = ℕ} 0 1 = cc in absurd (omega arith)

some_of : (ws : Members) (ls : List Line) (l : Line) → lines_of ws ≡ ls ++ l ∷ [] → some_lines ws ≡ ls ++ l ∷ []
some_of nil ls l e = nothing ls l e
some_of (cons n v ws) ls l e = e

into_some : (ms : Members) (n : Name) (p : List Name) (c : Leaf) (ws : Members) → ((us : Members) → put ms n p c ≡ ok us → lines_of us ≡ lines_of ms ++ line (n ∷ p) c ∷ []) → at_end ms (bad 9) (put ms n p c) ≡ ok ws → some_lines ws ≡ some_lines ms ++ line (n ∷ p) c ∷ []
into_some nil n p c ws h e = clash e
into_some (cons m v ms) n p c ws h e = some_of ws (lines_of (cons m v ms)) (line (n ∷ p) c) (h ws e)

put_end : (m : Name) (v : Value) (n : Name) (p : List Name) (c : Leaf) (ws : Members) → ((us : Members) → into v p c ≡ ok us → lines (binding us) ≡ lines v ++ line p c ∷ []) → put (cons m v nil) n p c ≡ ok ws → lines_of ws ≡ lines_of (cons m v nil) ++ line (n ∷ p) c ∷ []
put_end m v n p c ws h = go (same_name n m) (before m n) refl
  where
    go : (a b : Bool) → same_name n m ≡ a → cond a (after (into v p c) (λ us. ok (cons m (binding us) nil))) (cond b (ok (cons m v (cons n (chain p c) nil))) (bad 9)) ≡ ok ws → lines_of ws ≡ lines_of (cons m v nil) ++ line (n ∷ p) c ∷ []
    go true b s e =
        let q = after_ok (into v p c) (λ us. ok (cons m (binding us) nil)) ws e in
        let us = q.0 in
        let w : cons m (binding us) nil ≡ ws = let f = q.2 in cc in
        let nm : n ≡ m = (name_test n m).0 s in
        sym (ap lines_of w) ∙ lines_end m (binding us) ∙ ap (map (below m)) (h us q.1) ∙ map-append (below m) (lines v) (line p c ∷ [])
        ∙ (λ j. sym (lines_end m v) j ++ line (sym nm j ∷ p) c ∷ [])
    go false true s e =
        let w : cons m v (cons n (chain p c) nil) ≡ ws = cc in
        sym (ap lines_of w) ∙ (λ j. sym (lines_end m v) j ++ (lines_end n (chain p c) ∙ ap (map (below n)) (chain_lines p c)) j)
    go false false s e = clash e

put_behind : (m : Name) (v : Value) (ms : Members) (n : Name) (p : List Name) (c : Leaf) (ws : Members) → ((us : Members) → into v p c ≡ ok us → lines (binding us) ≡ lines v ++ line p c ∷ []) → ((us : Members) → put ms n p c ≡ ok us → lines_of us ≡ lines_of ms ++ line (n ∷ p) c ∷ []) → put (cons m v ms) n p c ≡ ok ws → lines_of ws ≡ lines_of (cons m v ms) ++ line (n ∷ p) c ∷ []
put_behind m v nil n p c ws h k e = put_end m v n p c ws h e
put_behind m v (cons m₂ v₂ ms) n p c ws h k e =
    let q = after_ok (put (cons m₂ v₂ ms) n p c) (λ us. ok (cons m v us)) ws e in
    let w : cons m v q.0 ≡ ws = let f = q.2 in cc in
    sym (ap lines_of w) ∙ ap (λ r. map (below m) (lines v) ++ r) (k q.0 q.1) ∙ sym (append_assoc (map (below m) (lines v)) (lines_of (cons m₂ v₂ ms)) (line (n ∷ p) c ∷ []))

-- the lines of what is put are those before and the one put
mutual
  pub put_lines : (ms : Members) (n : Name) (p : List Name) (c : Leaf) (ws : Members) → put ms n p c ≡ ok ws → lines_of ws ≡ lines_of ms ++ line (n ∷ p) c ∷ []
  put_lines nil n p c ws e =
      let q : cons n (chain p c) nil ≡ ws = cc in
      sym (ap lines_of q) ∙ lines_end n (chain p c) ∙ ap (map (below n)) (chain_lines p c)
  put_lines (cons m v ms) n p c ws e = put_behind m v ms n p c ws (λ us. into_lines v p c us) (λ us. put_lines ms n p c us) e

  pub into_lines : (v : Value) (p : List Name) (c : Leaf) (ws : Members) → into v p c ≡ ok ws → lines (binding ws) ≡ lines v ++ line p c ∷ []
  into_lines (text s) p c ws e = clash e
  into_lines (truth b) p c ws e = clash e
  into_lines (binding ms) [] c ws e = clash e
  into_lines (binding ms) (n ∷ p) c ws e = into_some ms n p c ws (λ us. put_lines ms n p c us) e

step_lines : (l : Line) (ms ws : Members) → step l ms ≡ ok ws → lines_of ws ≡ lines_of ms ++ l ∷ []
step_lines (line [] c) ms ws e = clash e
step_lines (line (n ∷ p) c) ms ws e =
    let q = after_ok (put ms n p c) (λ us. cond (within us) (ok us) (bad 10)) ws e in
    go q.0 (within q.0) q.1 q.2
  where
    go : (us : Members) (b : Bool) → put ms n p c ≡ ok us → cond b (ok us) (bad 10) ≡ ok ws → lines_of ws ≡ lines_of ms ++ line (n ∷ p) c ∷ []
    go us true e f = let w : us ≡ ws = cc in sym (ap lines_of w) ∙ put_lines ms n p c us e
    go us false e f = clash f

pub fill_lines : (ms : Members) (ls : List Line) (ws : Members) → fill ms ls ≡ ok ws → lines_of ws ≡ lines_of ms ++ ls
fill_lines ms [] ws e = let w : ms ≡ ws = cc in sym (ap lines_of w) ∙ sym (append-nil (lines_of ms))
fill_lines ms (l ∷ ls) ws e =
    let q = after_ok (step l ms) (λ us. fill us ls) ws e in
    fill_lines q.0 ls ws q.2 ∙ ap (λ r. r ++ ls) (step_lines l ms q.0 q.1) ∙ append_assoc (lines_of ms) (l ∷ []) ls
