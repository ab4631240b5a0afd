-- A binding's own lines make it. Assumes nothing.
use Rattle.std.proofs.Common.{◌≡◌, ℕ, suc, ◌≤◌, Bool, true, false, cond, ◌&&◌, eqb, ltb, leb, List, [], ◌∷◌, ◌++◌, map, sym, refl, ap, ◌∙◌, subst, arith}
use Rattle.std.proofs.lemmas.Bool.Decides.{nat_tests}
use Rattle.values.specs.Values.{Name, Value, text, truth, binding, Members, nil, cons, same_name, before}
use Rattle.values.specs.Limits.{height, heights, many, small, all_small, first_after, ordered, all_ordered}
use Rattle.trees.specs.Lines.{Leaf, text_leaf, truth_leaf, empty_leaf, Line, line, below, lines, some_lines, lines_of, Read, ok, bad, after, chain, at_end, put, into, within, fill}
use Rattle.values.proofs.Sameness.{name_test}
use Rattle.trees.proofs.Listed.{clash, after_ok}

no : {P : Type 0} → true ≡ false → P
no e = let z : ◌≡◌ {A = ℕ} 0 1 = cc in absurd (omega arith)

both : (a b : Bool) → (a && b) ≡ true → (a ≡ true) × (b ≡ true)
both true b e = (refl, e)
both false b e = no (sym e)

both_hold : (a b : Bool) → a ≡ true → b ≡ true → (a && b) ≡ true
both_hold true b e f = f
both_hold false b e f = e

-- lines put one after the other, with no look at limits
abbrev run : Members → List Line → Read
run ms [] = ok ms
run ms (line [] c ∷ ls) = bad 9
run ms (line (n ∷ p) c ∷ ls) = after (put ms n p c) (λ ws. run ws ls)

abbrev snoc : Members → Name → Value → Members
snoc nil n v = cons n v nil
snoc (cons m w ms) n v = cons m w (snoc ms n v)

abbrev join : Members → Members → Members
join acc nil = acc
join acc (cons n v ms) = join (snoc acc n v) ms

abbrev either : Members → Bool → Bool → Bool
either nil a b = a
either (cons n v ms) a b = b

-- the last name stands before n
abbrev last_before : Members → Name → Bool
last_before nil n = true
last_before (cons m w ms) n = either ms (before m n) (last_before ms n)

abbrev joins : Members → Members → Bool
joins acc nil = true
joins acc (cons n v ms) = last_before acc n

abbrev some : Members → Bool
some nil = false
some (cons n v ms) = true

irrefl : (n : Name) → before n n ≡ false
irrefl [] = refl
irrefl (x ∷ n) = pick (ltb x x) (eqb x x) (before n n) (grind (arith, nat_tests)) (irrefl n)
  where
    pick : (a b c : Bool) → a ≡ false → c ≡ false → cond a true (b && c) ≡ false
    pick true b c e f = e
    pick false true c e f = f
    pick false false c e f = refl

apart : (m n : Name) → before m n ≡ true → same_name n m ≡ false
apart m n e = go (same_name n m) refl
  where
    go : (b : Bool) → same_name n m ≡ b → b ≡ false
    go false q = refl
    go true q = sym e ∙ ap (before m) ((name_test n m).0 q) ∙ irrefl m

-- a new name goes to the end
put_new : (acc : Members) (n : Name) (p : List Name) (c : Leaf) → last_before acc n ≡ true → put acc n p c ≡ ok (snoc acc n (chain p c))
put_new nil n p c b = refl
put_new (cons m w nil) n p c b = (λ j. cond (apart m n b j) (after (into w p c) (λ ws. ok (cons m (binding ws) nil))) (cond (b j) (ok (cons m w (cons n (chain p c) nil))) (bad 9)))
put_new (cons m w (cons m₂ w₂ ms)) n p c b = ap (λ r. after r (λ ws. ok (cons m w ws))) (put_new (cons m₂ w₂ ms) n p c b)

-- a line below the last name goes into its binding
put_deep : (acc : Members) (n k : Name) (q : List Name) (c : Leaf) (bs us : Members) → some bs ≡ true → put bs k q c ≡ ok us → put (snoc acc n (binding bs)) n (k ∷ q) c ≡ ok (snoc acc n (binding us))
put_deep nil n k q c nil us s e = no (sym s)
put_deep nil n k q c (cons m v bs) us s e =
    ap (λ a. cond a (after (put (cons m v bs) k q c) (λ ws. ok (cons n (binding ws) nil))) (cond (before n n) (ok (cons n (binding (cons m v bs)) (cons n (chain (k ∷ q) c) nil))) (bad 9))) ((name_test n n).1 refl)
    ∙ ap (λ r. after r (λ ws. ok (cons n (binding ws) nil))) e
put_deep (cons a w nil) n k q c bs us s e = ap (λ r. after r (λ ws. ok (cons a w ws))) (put_deep nil n k q c bs us s e)
put_deep (cons a w (cons a₂ w₂ ms)) n k q c bs us s e = ap (λ r. after r (λ ws. ok (cons a w ws))) (put_deep (cons a₂ w₂ ms) n k q c bs us s e)

put_some : (ms : Members) (n : Name) (p : List Name) (c : Leaf) (ws : Members) → put ms n p c ≡ ok ws → some ws ≡ true
put_some nil n p c ws e = let q : cons n (chain p c) nil ≡ ws = cc in sym (ap some q)
put_some (cons m v nil) n p c ws e = go (same_name n m) (before m n) e
  where
    go : (a b : Bool) → cond a (after (into v p c) (λ us. ok (cons m (binding us) nil))) (cond b (ok (cons m v (cons n (chain p c) nil))) (bad 9)) ≡ ok ws → some ws ≡ true
    go true b e = let q = after_ok (into v p c) (λ us. ok (cons m (binding us) nil)) ws e in let w : cons m (binding q.0) nil ≡ ws = let f = q.2 in cc in sym (ap some w)
    go false true e = let w : cons m v (cons n (chain p c) nil) ≡ ws = cc in sym (ap some w)
    go false false e = clash e
put_some (cons m v (cons m₂ v₂ ms)) n p c ws e =
    let q = after_ok (put (cons m₂ v₂ ms) n p c) (λ us. ok (cons m v us)) ws e in
    let w : cons m v q.0 ≡ ws = let f = q.2 in cc in sym (ap some w)

-- lines below the last name
deeper : (acc : Members) (n : Name) (bs : Members) (ls : List Line) (us : Members) → some bs ≡ true → run bs ls ≡ ok us → run (snoc acc n (binding bs)) (map (below n) ls) ≡ ok (snoc acc n (binding us))
deeper acc n bs [] us s e = let w : bs ≡ us = cc in ap (λ x. ok (snoc acc n (binding x))) w
deeper acc n bs (line [] c ∷ ls) us s e = clash e
deeper acc n bs (line (k ∷ q) c ∷ ls) us s e =
    let f = after_ok (put bs k q c) (λ ws. run ws ls) us e in
    ap (λ r. after r (λ ws. run ws (map (below n) ls))) (put_deep acc n k q c bs f.0 s f.1)
    ∙ deeper acc n f.0 ls us (put_some bs k q c f.0 f.1) f.2

-- all lines of a new last member
nested : (acc : Members) (n : Name) (l : Line) (ls : List Line) (us : Members) → last_before acc n ≡ true → run nil (l ∷ ls) ≡ ok us → run acc (map (below n) (l ∷ ls)) ≡ ok (snoc acc n (binding us))
nested acc n (line [] c) ls us b e = clash e
nested acc n (line (k ∷ q) c) ls us b e =
    ap (λ r. after r (λ ws. run ws (map (below n) ls))) (put_new acc n (k ∷ q) c b)
    ∙ deeper acc n (cons k (chain q c) nil) ls us refl e

run_append : (ms : Members) (ls ks : List Line) (us : Members) → run ms ls ≡ ok us → run ms (ls ++ ks) ≡ run us ks
run_append ms [] ks us e = let w : ms ≡ us = cc in ap (λ x. run x ks) w
run_append ms (line [] c ∷ ls) ks us e = clash e
run_append ms (line (n ∷ p) c ∷ ls) ks us e =
    let f = after_ok (put ms n p c) (λ ws. run ws ls) us e in
    ap (λ r. after r (λ ws. run ws (ls ++ ks))) f.1 ∙ run_append f.0 ls ks us f.2

joins_nil : (ms : Members) → joins nil ms ≡ true
joins_nil nil = refl
joins_nil (cons n v ms) = refl

last_snoc : (acc : Members) (m : Name) (v : Value) (n : Name) → last_before (snoc acc m v) n ≡ before m n
last_snoc nil m v n = refl
last_snoc (cons a w nil) m v n = refl
last_snoc (cons a w (cons a₂ w₂ ms)) m v n = last_snoc (cons a₂ w₂ ms) m v n

joins_next : (acc : Members) (n : Name) (v : Value) (ms : Members) → first_after n ms ≡ true → joins (snoc acc n v) ms ≡ true
joins_next acc n v nil f = refl
joins_next acc n v (cons m w ms) f = last_snoc acc n v m ∙ f

join_snoc : (acc : Members) (m : Name) (w : Value) (ms : Members) → join (cons m w acc) ms ≡ cons m w (join acc ms)
join_snoc acc m w nil = refl
join_snoc acc m w (cons n v ms) = join_snoc (snoc acc n v) m w ms

join_nil : (ms : Members) → join nil ms ≡ ms
join_nil nil = refl
join_nil (cons n v ms) = join_snoc nil n v ms ∙ ap (cons n v) (join_nil ms)

wrap : (ms : Members) (acc : Members) (n : Name) → last_before acc n ≡ true → run nil (lines_of ms) ≡ ok (join nil ms) → run acc (map (below n) (some_lines ms)) ≡ ok (snoc acc n (binding ms))
wrap nil acc n b e = ap (λ r. after r (λ ws. ok ws)) (put_new acc n [] empty_leaf b)
wrap (cons m v ms) acc n b e = go (lines_of (cons m v ms)) refl
  where
    go : (ls : List Line) → lines_of (cons m v ms) ≡ ls → run acc (map (below n) ls) ≡ ok (snoc acc n (binding (cons m v ms)))
    go [] q = let f : ok nil ≡ ok (cons m v ms) = ap (run nil) (sym q) ∙ e ∙ ap ok (join_nil (cons m v ms)) in let z : ◌≡◌ {A = ℕ} 0 1 = cc in absurd (omega arith)
    go (l ∷ ls) q = nested acc n l ls (cons m v ms) b (ap (run nil) (sym q) ∙ e ∙ ap ok (join_nil (cons m v ms)))

mutual
  make : (v : Value) → ordered v ≡ true → (acc : Members) (n : Name) → last_before acc n ≡ true → run acc (map (below n) (lines v)) ≡ ok (snoc acc n v)
  make (text s) o acc n b = ap (λ r. after r (λ ws. ok ws)) (put_new acc n [] (text_leaf s) b)
  make (truth t) o acc n b = ap (λ r. after r (λ ws. ok ws)) (put_new acc n [] (truth_leaf t) b)
  make (binding ms) o acc n b = wrap ms acc n b (make_all ms o nil (joins_nil ms))

  make_all : (ms : Members) → all_ordered ms ≡ true → (acc : Members) → joins acc ms ≡ true → run acc (lines_of ms) ≡ ok (join acc ms)
  make_all nil o acc b = refl
  make_all (cons n v ms) o acc b =
      let o1 = both (ordered v) (first_after n ms && all_ordered ms) o in
      let o2 = both (first_after n ms) (all_ordered ms) o1.1 in
      run_append acc (map (below n) (lines v)) (lines_of ms) (snoc acc n v) (make v o1.0 acc n b)
      ∙ make_all ms o2.1 (snoc acc n v) (joins_next acc n v ms o2.0)

pub made : (ms : Members) → all_ordered ms ≡ true → run nil (lines_of ms) ≡ ok ms
made ms o = make_all ms o nil (joins_nil ms) ∙ ap ok (join_nil ms)

is_leb : (a b : ℕ) → leb a b ≡ true → a ≤ b
is_leb a b e = grind (arith, nat_tests)

leb_is : (a b : ℕ) → a ≤ b → leb a b ≡ true
leb_is a b h = grind (arith, nat_tests)

-- what is put only grows
record Grows (ms ws : Members) : Type 0 where
  higher : heights ms ≤ heights ws
  wider : many ms ≤ many ws
  smaller : all_small ws ≡ true → all_small ms ≡ true

record GrowsIn (v : Value) (ws : Members) : Type 0 where
  higher : height v ≤ suc (heights ws)
  smaller : small (binding ws) ≡ true → small v ≡ true

grows_end : (m : Name) (v : Value) (n : Name) (p : List Name) (c : Leaf) (ws : Members) → ((us : Members) → into v p c ≡ ok us → GrowsIn v us) → put (cons m v nil) n p c ≡ ok ws → Grows (cons m v nil) ws
grows_end m v n p c ws h e = go (same_name n m) (before m n) e
  where
    go : (a b : Bool) → cond a (after (into v p c) (λ us. ok (cons m (binding us) nil))) (cond b (ok (cons m v (cons n (chain p c) nil))) (bad 9)) ≡ ok ws → Grows (cons m v nil) ws
    go true b e =
        let q = after_ok (into v p c) (λ us. ok (cons m (binding us) nil)) ws e in
        let w : cons m (binding q.0) nil ≡ ws = let f = q.2 in cc in
        let g = h q.0 q.1 in
        subst (λ x. Grows (cons m v nil) x) w (record {
          higher = omega (arith, g.higher);
          wider = omega arith;
          smaller = λ s. both_hold (small v) true (g.smaller (both (small (binding q.0)) true s).0) refl;
        })
    go false true e =
        let w : cons m v (cons n (chain p c) nil) ≡ ws = cc in
        subst (λ x. Grows (cons m v nil) x) w (record {
          higher = omega arith;
          wider = omega arith;
          smaller = λ s. both_hold (small v) true (both (small v) (small (chain p c) && true) s).0 refl;
        })
    go false false e = clash e

grows_behind : (m : Name) (v : Value) (ms : Members) (n : Name) (p : List Name) (c : Leaf) (ws : Members) → ((us : Members) → into v p c ≡ ok us → GrowsIn v us) → ((us : Members) → put ms n p c ≡ ok us → Grows ms us) → put (cons m v ms) n p c ≡ ok ws → Grows (cons m v ms) ws
grows_behind m v nil n p c ws h k e = grows_end m v n p c ws h e
grows_behind m v (cons m₂ v₂ ms) n p c ws h k e =
    let q = after_ok (put (cons m₂ v₂ ms) n p c) (λ us. ok (cons m v us)) ws e in
    let w : cons m v q.0 ≡ ws = let f = q.2 in cc in
    let g = k q.0 q.1 in
    subst (λ x. Grows (cons m v (cons m₂ v₂ ms)) x) w (record {
      higher = omega (arith, g.higher);
      wider = omega (arith, g.wider);
      smaller = λ s. let s2 = both (small v) (all_small q.0) s in both_hold (small v) (all_small (cons m₂ v₂ ms)) s2.0 (g.smaller s2.1);
    })

grows_into : (ms : Members) (n : Name) (p : List Name) (c : Leaf) (ws : Members) → ((us : Members) → put ms n p c ≡ ok us → Grows ms us) → at_end ms (bad 9) (put ms n p c) ≡ ok ws → GrowsIn (binding ms) ws
grows_into nil n p c ws h e = clash e
grows_into (cons m v ms) n p c ws h e =
    let g = h ws e in
    record {
      higher = omega (arith, g.higher);
      smaller = λ s. let s2 = both (leb (many ws) 64) (all_small ws) s in both_hold (leb (many (cons m v ms)) 64) (all_small (cons m v ms)) (let l = is_leb (many ws) 64 s2.0 in leb_is (many (cons m v ms)) 64 (omega (arith, g.wider))) (g.smaller s2.1);
    }

mutual
  put_grows : (ms : Members) (n : Name) (p : List Name) (c : Leaf) (ws : Members) → put ms n p c ≡ ok ws → Grows ms ws
  put_grows nil n p c ws e = record { higher = omega arith; wider = omega arith; smaller = λ s. refl }
  put_grows (cons m v ms) n p c ws e = grows_behind m v ms n p c ws (λ us. into_grows v p c us) (λ us. put_grows ms n p c us) e

  into_grows : (v : Value) (p : List Name) (c : Leaf) (ws : Members) → into v p c ≡ ok ws → GrowsIn v ws
  into_grows (text s) p c ws e = clash e
  into_grows (truth b) p c ws e = clash e
  into_grows (binding ms) [] c ws e = clash e
  into_grows (binding ms) (n ∷ p) c ws e = grows_into ms n p c ws (λ us. put_grows ms n p c us) e

within_back : (ms ws : Members) → Grows ms ws → within ws ≡ true → within ms ≡ true
within_back ms ws g w =
    let w1 = both (leb (suc (heights ws)) 16) (small (binding ws)) w in
    let w2 = both (leb (many ws) 64) (all_small ws) w1.1 in
    let h = is_leb (suc (heights ws)) 16 w1.0 in
    let k = is_leb (many ws) 64 w2.0 in
    both_hold (leb (suc (heights ms)) 16) (small (binding ms)) (leb_is (suc (heights ms)) 16 (omega (arith, g.higher)))
    (both_hold (leb (many ms) 64) (all_small ms) (leb_is (many ms) 64 (omega (arith, g.wider))) (g.smaller w2.1))

run_within : (ms : Members) (ls : List Line) (us : Members) → run ms ls ≡ ok us → within us ≡ true → within ms ≡ true
run_within ms [] us e w = let q : ms ≡ us = cc in ap within q ∙ w
run_within ms (line [] c ∷ ls) us e w = clash e
run_within ms (line (n ∷ p) c ∷ ls) us e w =
    let f = after_ok (put ms n p c) (λ ws. run ws ls) us e in
    within_back ms f.0 (put_grows ms n p c f.0 f.1) (run_within f.0 ls us f.2 w)

pub run_fill : (ms : Members) (ls : List Line) (us : Members) → run ms ls ≡ ok us → within us ≡ true → fill ms ls ≡ ok us
run_fill ms [] us e w = e
run_fill ms (line [] c ∷ ls) us e w = clash e
run_fill ms (line (n ∷ p) c ∷ ls) us e w =
    let f = after_ok (put ms n p c) (λ ws. run ws ls) us e in
    let i = run_within f.0 ls us f.2 w in
    ap (λ r. after (after r (λ ws. cond (within ws) (ok ws) (bad 10))) (λ ws. fill ws ls)) f.1
    ∙ ap (λ b. after (cond b (ok f.0) (bad 10)) (λ ws. fill ws ls)) i
    ∙ run_fill f.0 ls us f.2 w

pub read_back : (ms : Members) → all_ordered ms ≡ true → within ms ≡ true → fill nil (lines_of ms) ≡ ok ms
read_back ms o w = run_fill nil (lines_of ms) ms (made ms o) w
