-- A line put behind others, by the path and the counts of the last line alone. Assumes nothing.
use Rattle.std.proofs.Common.{◌≡◌, ℕ, zero, suc, ◌+◌, max, Bool, true, false, cond, ◌&&◌, leb, List, [], ◌∷◌, length, get_or, sym, refl, ap, ◌∙◌, subst, arith}
use Rattle.std.proofs.lemmas.Bool.{and_parts}
use mathlib.Core.Option.{Option, none, some}
use Rattle.values.specs.Values.{Name, Value, text, truth, binding, Members, nil, cons, same_name, before, mapped}
use Rattle.values.specs.Limits.{many, height, heights, small, all_small}
use Rattle.trees.specs.Lines.{Leaf, text_leaf, truth_leaf, empty_leaf, ok, bad, after, chain, at_end, put, into}
use Rattle.trees.specs.Paths.{shared}
use Rattle.trees.specs.Progress.{last_path, value_path, deeper_counts, value_counts, counts, place_behind, leaf_height, leaf_small, ones, bumped}
use Rattle.values.proofs.Sameness.{name_test}
use Rattle.trees.proofs.Order.{shared_end}

-- a path where nothing was
chain_path : (p : List Name) (c : Leaf) → value_path (chain p c) ≡ p
chain_path [] (text_leaf s) = refl
chain_path [] (truth_leaf b) = refl
chain_path [] empty_leaf = refl
chain_path (n ∷ p) c = ap (λ q. n ∷ q) (chain_path p c)

chain_counts : (p : List Name) (c : Leaf) → value_counts (chain p c) ≡ ones p
chain_counts [] (text_leaf s) = refl
chain_counts [] (truth_leaf b) = refl
chain_counts [] empty_leaf = refl
chain_counts (n ∷ p) c = ap (λ q. 1 ∷ q) (chain_counts p c)

chain_height : (p : List Name) (c : Leaf) → height (chain p c) ≡ length p + leaf_height c
chain_height [] (text_leaf s) = refl
chain_height [] (truth_leaf b) = refl
chain_height [] empty_leaf = refl
chain_height (n ∷ p) c = let h = chain_height p c in omega arith

and_true : (b : Bool) → (b && true) ≡ b
and_true true = refl
and_true false = refl

chain_small : (p : List Name) (c : Leaf) → small (chain p c) ≡ leaf_small c
chain_small [] (text_leaf s) = refl
chain_small [] (truth_leaf b) = refl
chain_small [] empty_leaf = refl
chain_small (n ∷ p) c = and_true (small (chain p c)) ∙ chain_small p c

-- below the top, the count at which the new path leaves the old one
abbrev pub deep : ℕ → List ℕ → Bool
deep zero cs = true
deep (suc d) [] = true
deep (suc d) (c ∷ cs) = leb (suc (get_or cs d 0)) 64

-- members with one line more
pub record Grown (ms : Members) (n : Name) (p : List Name) (c : Leaf) (d : ℕ) (ws : Members) : Type 0 where
  pub is : put ms n p c ≡ ok ws
  pub path : last_path ws ≡ n ∷ p
  pub counted : counts ws ≡ bumped d (counts ms) (n ∷ p)
  pub high : heights ws ≡ max (heights ms) (length p + leaf_height c)
  pub few : all_small ms ≡ true → all_small ws ≡ (leaf_small c && deep d (counts ms))
  pub some_there : ◌≡◌ {A = ℕ} (at_end ws 0 1) 1

abbrev pub Outcome : Members → Name → List Name → Leaf → Option ℕ → Type 0
Outcome ms n p c none = put ms n p c ≡ bad 9
Outcome ms n p c (some d) = (ws : Members) × Grown ms n p c d ws

-- a value with one line more below it
record GrownValue (v : Value) (p : List Name) (c : Leaf) (d : ℕ) (ws : Members) : Type 0 where
  is : into v p c ≡ ok ws
  path : last_path ws ≡ p
  counted : counts ws ≡ bumped d (value_counts v) p
  high : suc (heights ws) ≡ max (height v) (length p + leaf_height c)
  few : small v ≡ true → small (binding ws) ≡ (leaf_small c && leb (suc (get_or (value_counts v) d 0)) 64)
  some_there : ◌≡◌ {A = ℕ} (at_end ws 0 1) 1

abbrev Into : Value → List Name → Leaf → Option ℕ → Type 0
Into v p c none = into v p c ≡ bad 9
Into v p c (some d) = (ws : Members) × GrownValue v p c d ws

-- the first line
first_line : (n : Name) (p : List Name) (c : Leaf) → Grown nil n p c 0 (cons n (chain p c) nil)
first_line n p c =
    let h = chain_height p c in
    record {
      is = refl;
      path = ap (λ q. n ∷ q) (chain_path p c);
      counted = ap (λ q. 1 ∷ q) (chain_counts p c);
      high = omega arith;
      few = λ e. and_true (small (chain p c)) ∙ chain_small p c ∙ sym (and_true (leaf_small c));
      some_there = refl;
    }

there : (ws : Members) → ◌≡◌ {A = ℕ} (at_end ws 0 1) 1 → {A : Type 0} (a b : A) → at_end ws a b ≡ b
there nil e a b = absurd (omega arith)
there (cons n v ws) e a b = refl

swapped : (a b : Bool) → (a && (b && true)) ≡ (b && a)
swapped true true = refl
swapped true false = refl
swapped false true = refl
swapped false false = refl

-- the limits of texts and members, by the count where the paths part
pub few_here : (ms ws : Members) (n : Name) (p : List Name) (c : Leaf) (d : ℕ) → counts ws ≡ bumped d (counts ms) (n ∷ p) → (all_small ms ≡ true → all_small ws ≡ (leaf_small c && deep d (counts ms))) → small (binding ms) ≡ true → small (binding ws) ≡ (leaf_small c && leb (suc (get_or (counts ms) d 0)) 64)
few_here ms ws n p c zero e f s =
    let one : many ws ≡ suc (many ms) = cc in
    let s2 = and_parts (leb (many ms) 64) (all_small ms) s in
    (λ j. leb (one j) 64 && f s2.1 j) ∙ swapped (leb (suc (many ms)) 64) (leaf_small c)
few_here ms ws n p c (suc d) e f s =
    let same : many ws ≡ many ms = cc in
    let s2 = and_parts (leb (many ms) 64) (all_small ms) s in
    (λ j. (ap (λ k. leb k 64) same ∙ s2.0) j && f s2.1 j)

-- a path that goes on in the last member's value
into_binding : (us : Members) (p : List Name) (c : Leaf) → ((n : Name) (q : List Name) → Outcome us n q c (place_behind us (n ∷ q))) → Into (binding us) p c (shared (last_path us) p)
into_binding nil [] c k = refl
into_binding nil (n ∷ p) c k = refl
into_binding (cons m v us) [] c k = subst (Into (binding (cons m v us)) [] c) (sym (shared_end (last_path (cons m v us)))) refl
into_binding (cons m v us) (n ∷ p) c k = go (shared (last_path (cons m v us)) (n ∷ p)) (k n p)
  where
    go : (o : Option ℕ) → Outcome (cons m v us) n p c o → Into (binding (cons m v us)) (n ∷ p) c o
    go none h = h
    go (some d) (ws, g) = (
      ws,
      record {
        is = g.is;
        path = g.path;
        counted = g.counted;
        high = let h = g.high in omega arith;
        few = few_here (cons m v us) ws n p c d g.counted g.few;
        some_there = g.some_there;
      },
    )

-- a last member of that name
in_last : (m : Name) (v : Value) (n : Name) (p : List Name) (c : Leaf) (o : Option ℕ) → same_name n m ≡ true → Into v p c o → Outcome (cons m v nil) n p c (mapped suc o)
in_last m v n p c none s h =
    ap (λ b. cond b (after (into v p c) (λ ws. ok (cons m (binding ws) nil))) (cond (before m n) (ok (cons m v (cons n (chain p c) nil))) (bad 9))) s
    ∙ ap (λ r. after r (λ ws. ok (cons m (binding ws) nil))) h
in_last m v n p c (some d) s (ws, g) = (
  cons m (binding ws) nil,
  record {
    is = ap (λ b. cond b (after (into v p c) (λ ws. ok (cons m (binding ws) nil))) (cond (before m n) (ok (cons m v (cons n (chain p c) nil))) (bad 9))) s ∙ ap (λ r. after r (λ ws. ok (cons m (binding ws) nil))) g.is;
    path = λ j. sym ((name_test n m).0 s) j ∷ g.path j;
    counted = ap (λ q. 1 ∷ q) (there ws g.some_there [] (counts ws) ∙ g.counted);
    high = let h = g.high in omega arith;
    few = λ e. and_true (small (binding ws)) ∙ g.few (and_parts (small v) true e).0;
    some_there = refl;
  },
)

-- a member behind the last one
behind_last : (m : Name) (v : Value) (n : Name) (p : List Name) (c : Leaf) → same_name n m ≡ false → before m n ≡ true → Grown (cons m v nil) n p c 0 (cons m v (cons n (chain p c) nil))
behind_last m v n p c s b =
    let h = chain_height p c in
    record {
      is = (λ j. cond (s j) (after (into v p c) (λ ws. ok (cons m (binding ws) nil))) (cond (b j) (ok (cons m v (cons n (chain p c) nil))) (bad 9)));
      path = ap (λ q. n ∷ q) (chain_path p c);
      counted = ap (λ q. 2 ∷ q) (chain_counts p c);
      high = omega arith;
      few = λ e. ap (λ x. x && (small (chain p c) && true)) (and_parts (small v) true e).0 ∙ and_true (small (chain p c)) ∙ chain_small p c ∙ sym (and_true (leaf_small c));
      some_there = refl;
    }

last_member : (m : Name) (v : Value) (n : Name) (p : List Name) (c : Leaf) → Into v p c (shared (value_path v) p) → Outcome (cons m v nil) n p c (shared (m ∷ value_path v) (n ∷ p))
last_member m v n p c h = go (same_name n m) refl (before m n) refl
  where
    go : (s : Bool) → same_name n m ≡ s → (b : Bool) → before m n ≡ b → Outcome (cons m v nil) n p c (cond s (mapped suc (shared (value_path v) p)) (cond b (some 0) none))
    go true s b t = in_last m v n p c (shared (value_path v) p) s h
    go false s true t = (cons m v (cons n (chain p c) nil), behind_last m v n p c s t)
    go false s false t = (λ j. cond (s j) (after (into v p c) (λ ws. ok (cons m (binding ws) nil))) (cond (t j) (ok (cons m v (cons n (chain p c) nil))) (bad 9)))

-- a member in front of the others
bumped_more : (ms ws : Members) (n : Name) (p : List Name) (d : ℕ) → counts ws ≡ bumped d (counts ms) (n ∷ p) → (suc (many ws) ∷ deeper_counts ws) ≡ bumped d (suc (many ms) ∷ deeper_counts ms) (n ∷ p)
bumped_more ms ws n p zero e = let a : many ws ≡ suc (many ms) = cc in let b : deeper_counts ws ≡ ones p = cc in (λ j. suc (a j) ∷ b j)
bumped_more ms ws n p (suc d) e = let a : many ws ≡ many ms = cc in let b : deeper_counts ws ≡ bumped d (deeper_counts ms) p = cc in (λ j. suc (a j) ∷ b j)

deep_more : (d k l : ℕ) (cs : List ℕ) → deep d (k ∷ cs) ≡ deep d (l ∷ cs)
deep_more zero k l cs = refl
deep_more (suc d) k l cs = refl

in_front : (m : Name) (v : Value) (x : Name) (y : Value) (us : Members) (n : Name) (p : List Name) (c : Leaf) (o : Option ℕ) → Outcome (cons x y us) n p c o → Outcome (cons m v (cons x y us)) n p c o
in_front m v x y us n p c none h = ap (λ r. after r (λ ws. ok (cons m v ws))) h
in_front m v x y us n p c (some d) (ws, g) = (
  cons m v ws,
  record {
    is = ap (λ r. after r (λ ws. ok (cons m v ws))) g.is;
    path = there ws g.some_there (m ∷ value_path v) (last_path ws) ∙ g.path;
    counted = ap (λ q. suc (many ws) ∷ q) (there ws g.some_there (value_counts v) (deeper_counts ws)) ∙ bumped_more (cons x y us) ws n p d g.counted;
    high = let h = g.high in omega arith;
    few = λ e. let e2 = and_parts (small v) (all_small (cons x y us)) e in (λ j. e2.0 j && g.few e2.1 j) ∙ ap (λ b. leaf_small c && b) (deep_more d (many (cons x y us)) (suc (many (cons x y us))) (deeper_counts (cons x y us)));
    some_there = refl;
  },
)

puts_cons : (m : Name) (v : Value) (ms : Members) (n : Name) (p : List Name) (c : Leaf) → Into v p c (shared (value_path v) p) → Outcome ms n p c (place_behind ms (n ∷ p)) → Outcome (cons m v ms) n p c (shared (last_path (cons m v ms)) (n ∷ p))
puts_cons m v nil n p c h k = last_member m v n p c h
puts_cons m v (cons x y us) n p c h k = in_front m v x y us n p c (shared (last_path (cons x y us)) (n ∷ p)) k

-- a line may stand exactly where its path may, and what it makes is known from the last line's path and counts
mutual
  pub puts : (ms : Members) (n : Name) (p : List Name) (c : Leaf) → Outcome ms n p c (place_behind ms (n ∷ p))
  puts nil n p c = (cons n (chain p c) nil, first_line n p c)
  puts (cons m v ms) n p c = puts_cons m v ms n p c (intos v p c) (puts ms n p c)

  intos : (v : Value) (p : List Name) (c : Leaf) → Into v p c (shared (value_path v) p)
  intos (text s) p c = refl
  intos (truth b) p c = refl
  intos (binding ms) p c = into_binding ms p c (λ n q. puts ms n q c)
