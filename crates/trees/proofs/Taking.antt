-- A line taken up behind others: what the tests in the code say of the definition. Assumes nothing.
use Rattle.std.proofs.Common.{◌≡◌, ℕ, zero, suc, ◌+◌, ◌-◌, ◌<◌, ◌≤◌, max, Bool, true, false, cond, ◌&&◌, leb, List, [], ◌∷◌, ◌++◌, length, get_or, take, replicate, IfSome, Some, None, Option as Answer, sym, refl, ap, ◌∙◌, subst, arith, Bor}
use Rattle.std.proofs.lemmas.Bool.{and_parts}
use mathlib.Core.Option.{Option, none, some}
use Rattle.std.proofs.lemmas.Bool.Decides.{nat_tests}
use Rattle.std.proofs.lemmas.List.{get_or-take, take-take, length-replicate}
use Rattle.values.specs.Values.{Name, Value, text, truth, binding, Members, nil, cons, same_name, before, mapped}
use Rattle.values.specs.Limits.{height, heights, small}
use Rattle.trees.specs.Lines.{at_end, Leaf, line, ok, bad, after, put, within, step}
use Rattle.trees.specs.Files.{split}
use Rattle.trees.specs.Contents.{answer}
use Rattle.trees.specs.Paths.{shared}
use Rattle.trees.specs.Progress.{last_path, value_path, deeper_counts, value_counts, counts, place_behind, leaf_height, leaf_small, in_limits, ones, bumped}
use Rattle.trees.specs.Laws.{LinesAscend}
use Rattle.trees.specs.Following.{placed, Last, Follows}
use Rattle.trees.specs.declared.progress.Progress.{Progress}
use Rattle.trees.proofs.Splits.{split_some}
use Rattle.trees.proofs.Spine.{Grown, Outcome, puts, few_here}

-- the paths part within both
shared_bound : (p q : List Name) (d : ℕ) → shared p q ≡ some d → (d < length p) × (d < length q)
shared_bound [] q d e = let z : ◌≡◌ {A = ℕ} 0 1 = cc in absurd (omega arith)
shared_bound (m ∷ p) [] d e = let z : ◌≡◌ {A = ℕ} 0 1 = cc in absurd (omega arith)
shared_bound (m ∷ p) (n ∷ q) d e = go (same_name n m) (before m n) (shared p q) refl e (shared_bound p q)
  where
    go : (s b : Bool) (o : Option ℕ) → shared p q ≡ o → cond s (mapped suc o) (cond b (some 0) none) ≡ some d → ((k : ℕ) → shared p q ≡ some k → (k < length p) × (k < length q)) → (d < length (m ∷ p)) × (d < length (n ∷ q))
    go true b none f e h = let z : ◌≡◌ {A = ℕ} 0 1 = cc in absurd (omega arith)
    go true b (some k) f e h = let g : suc k ≡ d = cc in let w = h k f in (omega arith, omega arith)
    go false true o f e h = let g : ◌≡◌ {A = ℕ} 0 d = cc in (omega arith, omega arith)
    go false false o f e h = let z : ◌≡◌ {A = ℕ} 0 1 = cc in absurd (omega arith)

placed_bound : (l : Answer (Bor (List ℕ))) (n : Name) (q : List Name) (d : ℕ) → placed l (n ∷ q) ≡ some d → d < length (n ∷ q)
placed_bound None n q d e = let g : ◌≡◌ {A = ℕ} 0 d = cc in omega arith
placed_bound (Some l) n q d e = (shared_bound (split 47 l.now) (n ∷ q) d e).1

-- each name of the last path has its count
mutual
  path_counted : (ms : Members) → length (last_path ms) ≤ suc (length (deeper_counts ms))
  path_counted nil = omega arith
  path_counted (cons n v ms) = path_counted_cons n v ms (value_counted v) (path_counted ms)

  value_counted : (v : Value) → length (value_path v) ≤ length (value_counts v)
  value_counted (text s) = omega arith
  value_counted (truth b) = omega arith
  value_counted (binding ms) = value_counted_binding ms (path_counted ms)

  path_counted_cons : (n : Name) (v : Value) (ms : Members) → length (value_path v) ≤ length (value_counts v) → length (last_path ms) ≤ suc (length (deeper_counts ms)) → length (last_path (cons n v ms)) ≤ suc (length (deeper_counts (cons n v ms)))
  path_counted_cons n v nil h k = omega arith
  path_counted_cons n v (cons x y ms) h k = k

  value_counted_binding : (ms : Members) → length (last_path ms) ≤ suc (length (deeper_counts ms)) → length (last_path ms) ≤ length (value_counts (binding ms))
  value_counted_binding nil h = omega arith
  value_counted_binding (cons x y ms) h = h

place_bound : (ms : Members) (n : Name) (q : List Name) (d : ℕ) → place_behind ms (n ∷ q) ≡ some d → (d < length (counts ms)) × (d < length (n ∷ q))
place_bound nil n q d e = let g : ◌≡◌ {A = ℕ} 0 d = cc in (omega arith, omega arith)
place_bound (cons m v ms) n q d e = let b = shared_bound (last_path (cons m v ms)) (n ∷ q) d e in let c = path_counted (cons m v ms) in (omega arith, b.1)

-- the code's place is the definition's
same_place : (ms : Members) (l : Answer (Bor (List ℕ))) (p : List Name) → Last ms l → placed l p ≡ place_behind ms p
same_place ms None p e = ap (λ us. place_behind us p) (sym e)
same_place nil (Some l) p (e, f) = absurd (omega arith)
same_place (cons m v ms) (Some l) p (e, f) = ap (λ s. shared s p) f

-- the new counts in the array
ones_are : (p : List Name) → ones p ≡ replicate (length p) 1
ones_are [] = refl
ones_are (n ∷ p) = ap (λ q. 1 ∷ q) (ones_are p)

bumped_is : (d : ℕ) (cs : List ℕ) (p : List Name) → d < length cs → d < length p → bumped d cs p ≡ take d cs ++ (get_or cs d 0 + 1) ∷ replicate (length p - (d + 1)) 1
bumped_is d [] p h k = absurd (omega arith)
bumped_is d (c ∷ cs) [] h k = absurd (omega arith)
bumped_is zero (c ∷ cs) (n ∷ p) h k =
    let a : suc c ≡ c + 1 = omega arith in
    let b : length p ≡ suc (length p) - (0 + 1) = omega arith in
    (λ j. a j ∷ (ones_are p ∙ ap (λ m. replicate m 1) b) j)
bumped_is (suc d) (c ∷ cs) (n ∷ p) h k =
    let b : length p - (d + 1) ≡ suc (length p) - (suc d + 1) = omega arith in
    ap (λ q. c ∷ q) (bumped_is d cs p (omega arith) (omega arith) ∙ ap (λ m. take d cs ++ (get_or cs d 0 + 1) ∷ replicate m 1) b)

length_bumped : (d : ℕ) (cs : List ℕ) (p : List Name) → d < length cs → d < length p → length (bumped d cs p) ≡ length p
length_bumped d [] p h k = absurd (omega arith)
length_bumped d (c ∷ cs) [] h k = absurd (omega arith)
length_bumped zero (c ∷ cs) (n ∷ p) h k = ap (λ q. suc (length q)) (ones_are p) ∙ ap suc (length-replicate (length p) 1)
length_bumped (suc d) (c ∷ cs) (n ∷ p) h k = ap suc (length_bumped d cs p (omega arith) (omega arith))

in_array : (d : ℕ) (cs xs : List ℕ) (p : List Name) → d < length cs → d < length p → take (length cs) xs ≡ cs → bumped d cs p ≡ take d xs ++ (get_or xs d 0 + 1) ∷ replicate (length p - (d + 1)) 1
in_array d cs xs p h k e =
    let front : take d cs ≡ take d xs = ap (take d) (sym e) ∙ take-take d (length cs) xs (omega arith) in
    let here : get_or cs d 0 ≡ get_or xs d 0 = ap (λ l. get_or l d 0) (sym e) ∙ get_or-take (length cs) xs d 0 h in
    bumped_is d cs p h k ∙ (λ j. front j ++ (here j + 1) ∷ replicate (length p - (d + 1)) 1)

high_test : (a b : ℕ) → suc a ≤ 16 → leb (suc (max a b)) 16 ≡ leb (suc b) 16
high_test a b h = grind (arith, nat_tests)

is_leb : (a b : ℕ) → leb a b ≡ true → a ≤ b
is_leb a b e = grind (arith, nat_tests)

within_grown : (ms : Members) (n : Name) (q : List Name) (c : Leaf) (d : ℕ) (ws : Members) → within ms ≡ true → Grown ms n q c d ws → within ws ≡ in_limits (length (n ∷ q)) c (get_or (counts ms) d 0)
within_grown ms n q c d ws w g =
    let w2 = and_parts (leb (height (binding ms)) 16) (small (binding ms)) w in
    let top : leb (suc (heights ws)) 16 ≡ leb (suc (length q) + leaf_height c) 16 =
    ap (λ h. leb (suc h) 16) g.high ∙ high_test (heights ms) (length q + leaf_height c) (is_leb (suc (heights ms)) 16 w2.0) ∙ ap (λ h. leb h 16) (omega arith) in
    (λ j. top j && few_here ms ws n q c d g.counted g.few w2.1 j)

-- not in order
disordered : (ms : Members) (kept : Progress) (n : Name) (q : List Name) (c : Leaf) → Follows ms kept → placed kept.last (n ∷ q) ≡ none → step (line (n ∷ q) c) ms ≡ bad 9
disordered ms kept n q c f e = go (place_behind ms (n ∷ q)) (sym (same_place ms kept.last (n ∷ q) f.last) ∙ e) (puts ms n q c)
  where
    go : (o : Option ℕ) → o ≡ none → Outcome ms n q c o → step (line (n ∷ q) c) ms ≡ bad 9
    go none e h = ap (λ r. after r (λ ws. cond (within ws) (ok ws) (bad 10))) h
    go (some d) e h = let z : ◌≡◌ {A = ℕ} 0 1 = cc in absurd (omega arith)

-- in order: what is made, and by which tests it is within the limits
in_order : (ms : Members) (kept : Progress) (n : Name) (q : List Name) (c : Leaf) (d : ℕ) → Follows ms kept → placed kept.last (n ∷ q) ≡ some d → (ws : Members) × (put ms n q c ≡ ok ws) × (last_path ws ≡ n ∷ q) × (counts ws ≡ take d kept.counts ++ (get_or kept.counts d 0 + 1) ∷ replicate (length (n ∷ q) - (d + 1)) 1) × (length (counts ws) ≡ length (n ∷ q)) × (within ws ≡ in_limits (length (n ∷ q)) c (get_or kept.counts d 0)) × (◌≡◌ {A = ℕ} (at_end ws 0 1) 1)
in_order ms kept n q c d f e =
    let at : place_behind ms (n ∷ q) ≡ some d = sym (same_place ms kept.last (n ∷ q) f.last) ∙ e in
    let b = place_bound ms n q d at in
    let h = subst (Outcome ms n q c) at (puts ms n q c) in
    let here : get_or (counts ms) d 0 ≡ get_or kept.counts d 0 = ap (λ l. get_or l d 0) (sym f.counted) ∙ get_or-take (length (counts ms)) kept.counts d 0 b.0 in (
      h.0,
      h.1.is,
      h.1.path,
      h.1.counted ∙ in_array d (counts ms) kept.counts (n ∷ q) b.0 b.1 f.counted,
      ap length h.1.counted ∙ length_bumped d (counts ms) (n ∷ q) b.0 b.1,
      within_grown ms n q c d h.0 f.in_limits h.1 ∙ ap (λ k. in_limits (length (n ∷ q)) c k) here,
      h.1.some_there,
    )

past_limit : (ms : Members) (kept : Progress) (n : Name) (q : List Name) (c : Leaf) (d : ℕ) → Follows ms kept → placed kept.last (n ∷ q) ≡ some d → in_limits (length (n ∷ q)) c (get_or kept.counts d 0) ≡ false → step (line (n ∷ q) c) ms ≡ bad 10
past_limit ms kept n q c d f e t =
    let o = in_order ms kept n q c d f e in
    ap (λ r. after r (λ ws. cond (within ws) (ok ws) (bad 10))) o.1 ∙ ap (λ b. cond b (ok o.0) (bad 10)) (o.5 ∙ t)

taken_up : (ms : Members) (kept next : Progress) (n : Name) (q : List Name) (l : Bor (List ℕ)) (c : Leaf) (d : ℕ) → Follows ms kept → placed kept.last (n ∷ q) ≡ some d → in_limits (length (n ∷ q)) c (get_or kept.counts d 0) ≡ true
    → next.last ≡ Some l → split 47 l.now ≡ n ∷ q → take (length (n ∷ q)) next.counts ≡ take d kept.counts ++ (get_or kept.counts d 0 + 1) ∷ replicate (length (n ∷ q) - (d + 1)) 1
    → (ws : Members) × (step (line (n ∷ q) c) ms ≡ ok ws) × Follows ws next
taken_up ms kept next n q l c d f e t lst names cnt =
    let o = in_order ms kept n q c d f e in (
      o.0,
      ap (λ r. after r (λ ws. cond (within ws) (ok ws) (bad 10))) o.1 ∙ ap (λ b. cond b (ok o.0) (bad 10)) (o.5 ∙ t),
      record {
        last = subst (Last o.0) (sym lst) (o.6, names ∙ sym o.2);
        counted = ap (λ k. take k next.counts) o.4 ∙ cnt ∙ sym o.3;
        in_limits = o.5 ∙ t;
      },
    )

-- the same over the bytes of a path
pub placed_within : (l : Answer (Bor (List ℕ))) (bs : List ℕ) (r : Answer ℕ) → r ≡ answer (placed l (split 47 bs)) → IfSome r (λ d. d < length (split 47 bs))
placed_within l bs r e = subst (λ x. IfSome x (λ d. d < length (split 47 bs))) (sym e) (go (placed l (split 47 bs)) refl)
  where
    go : (o : Option ℕ) → placed l (split 47 bs) ≡ o → IfSome (answer o) (λ d. d < length (split 47 bs))
    go none f = tt
    go (some d) f =
        let s = split_some 47 bs in
        subst (λ ns. d < length ns) (sym s.2) (placed_bound l s.0 s.1 d (ap (placed l) (sym s.2) ∙ f))

told_none : (o : Option ℕ) → None ≡ answer o → o ≡ none
told_none none e = refl
told_none (some d) e = let z : ◌≡◌ {A = ℕ} 0 1 = cc in absurd (omega arith)

told_some : (d : ℕ) (o : Option ℕ) → Some d ≡ answer o → o ≡ some d
told_some d none e = let z : ◌≡◌ {A = ℕ} 0 1 = cc in absurd (omega arith)
told_some d (some k) e = cc

pub line_disordered : (ms : Members) (kept : Progress) (bs : List ℕ) (c : Leaf) → None ≡ answer (placed kept.last (split 47 bs)) → Follows ms kept → step (line (split 47 bs) c) ms ≡ bad 9
line_disordered ms kept bs c e f =
    let s = split_some 47 bs in
    let none-there = told_none (placed kept.last (split 47 bs)) e in
    ap (λ ns. step (line ns c) ms) s.2 ∙ disordered ms kept s.0 s.1 c f (ap (placed kept.last) (sym s.2) ∙ none-there)

pub line_past_limit : (ms : Members) (kept : Progress) (bs : List ℕ) (c : Leaf) (d : ℕ) → Some d ≡ answer (placed kept.last (split 47 bs)) → in_limits (length (split 47 bs)) c (get_or kept.counts d 0) ≡ false → Follows ms kept → step (line (split 47 bs) c) ms ≡ bad 10
line_past_limit ms kept bs c d e t f =
    let s = split_some 47 bs in
    let there = told_some d (placed kept.last (split 47 bs)) e in
    ap (λ ns. step (line ns c) ms) s.2 ∙ past_limit ms kept s.0 s.1 c d f (ap (placed kept.last) (sym s.2) ∙ there) (ap (λ ns. in_limits (length ns) c (get_or kept.counts d 0)) (sym s.2) ∙ t)

pub line_taken : (ms : Members) (kept after : Progress) (l : Bor (List ℕ)) (c : Leaf) (d : ℕ) → Some d ≡ answer (placed kept.last (split 47 l.now)) → in_limits (length (split 47 l.now)) c (get_or kept.counts d 0) ≡ true
    → after.last ≡ Some l → take (length (split 47 l.now)) after.counts ≡ take d kept.counts ++ (get_or kept.counts d 0 + 1) ∷ replicate (length (split 47 l.now) - (d + 1)) 1
    → Follows ms kept → (ws : Members) × (step (line (split 47 l.now) c) ms ≡ ok ws) × Follows ws after
line_taken ms kept after l c d e t lst cnt f =
    let s = split_some 47 l.now in
    let there = told_some d (placed kept.last (split 47 l.now)) e in
    let r = taken_up ms kept after s.0 s.1 l c d f (ap (placed kept.last) (sym s.2) ∙ there) (ap (λ ns. in_limits (length ns) c (get_or kept.counts d 0)) (sym s.2) ∙ t) lst s.2
    (ap (λ ns. take (length ns) after.counts) (sym s.2) ∙ cnt ∙ ap (λ ns. take d kept.counts ++ (get_or kept.counts d 0 + 1) ∷ replicate (length ns - (d + 1)) 1) s.2) in
    (r.0, ap (λ ns. step (line ns c) ms) s.2 ∙ r.1, r.2)

-- a path of over 16 names is past the limit
pub too_deep : (names : ℕ) (c : Leaf) (count : ℕ) → 16 < names → in_limits names c count ≡ false
too_deep names c count l = let t : leb (names + leaf_height c) 16 ≡ false = grind (arith, nat_tests) in ap (λ b. b && (leaf_small c && leb (suc count) 64)) t

-- a line is out of order exactly where its path may not stand behind the last one
pub lines_ascend : LinesAscend
lines_ascend = record { refused = λ ms n p c e. refused ms n p c (place_behind ms (n ∷ p)) e (puts ms n p c); taken = λ ms n p c d e. taken ms n p c d (subst (Outcome ms n p c) e (puts ms n p c)) }
  where
    refused : (ms : Members) (n : Name) (p : List Name) (c : Leaf) (o : Option ℕ) → o ≡ none → Outcome ms n p c o → step (line (n ∷ p) c) ms ≡ bad 9
    refused ms n p c none e h = ap (λ r. after r (λ ws. cond (within ws) (ok ws) (bad 10))) h
    refused ms n p c (some d) e h = let z : ◌≡◌ {A = ℕ} 0 1 = cc in absurd (omega arith)

    taken : (ms : Members) (n : Name) (p : List Name) (c : Leaf) (d : ℕ) → Outcome ms n p c (some d) → (ws : Members) × (put ms n p c ≡ ok ws) × (last_path ws ≡ n ∷ p)
    taken ms n p c d (ws, g) = (ws, g.is, g.path)
