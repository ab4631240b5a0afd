-- An index that climbs by keys: halving, one number more, and the numbers below a limit. Assumes nothing.
use Rattle.std.proofs.Common.{◌≡◌, ℕ, zero, suc, ◌+◌, ◌<◌, ◌≤◌, Bool, true, false, cond, ◌&&◌, eqb, ltb, ◌⊎◌, List, [], ◌∷◌, length, get_or, take, drop, filter, Ordering, Less, Equal, Greater, sym, refl, ap, ◌∙◌, subst, inl, inr, ⊎_elim, arith}
use Rattle.std.specs.Ordering.{MatchOrdering}
use Rattle.std.specs.List.{insert}
use Rattle.std.proofs.lemmas.Bool.Decides.{nat_tests}
use Rattle.std.proofs.lemmas.Bool.{and_parts, and_from, eqb-true, eq-eqb, ltb-true, lt-ltb, le-ltb, cases_order, cases_lt}
use Rattle.values.specs.Values.{Name, same_name, before}
use Rattle.values.specs.Order.{order}
use Rattle.values.specs.Index.{key_at, all_before, all_after, climbs, all_below, below, counted, sound_index, Gap}
use Rattle.values.specs.declared.parts.Member.{Member}
use Rattle.values.specs.declared.nodes.Node.{Node}
use Rattle.values.proofs.Sameness.{clash, name_test}

-- the order of keys
heads : (x y : ℕ) (b : Bool) → cond (ltb x y) true (eqb x y && b) ≡ true → (x < y) ⊎ ((x ≡ y) × (b ≡ true))
heads x y b e = ⊎_elim (λ q. inr (q, go q e)) (⊎_elim (λ q. inl q) (λ q. clash (sym e ∙ past q))) (cases_order x y)
  where
    go : x ≡ y → cond (ltb x y) true (eqb x y && b) ≡ true → b ≡ true
    go q f = grind (arith, nat_tests)

    past : y < x → cond (ltb x y) true (eqb x y && b) ≡ false
    past q = grind (arith, nat_tests)

heads_less : (x y : ℕ) (b : Bool) → x < y → cond (ltb x y) true (eqb x y && b) ≡ true
heads_less x y b h = grind (arith, nat_tests)

heads_same : (x y : ℕ) (b : Bool) → x ≡ y → b ≡ true → cond (ltb x y) true (eqb x y && b) ≡ true
heads_same x y b h e = grind (arith, nat_tests)

pub before_trans : (a b c : Name) → before a b ≡ true → before b c ≡ true → before a c ≡ true
before_trans a [] c e f = clash (sym e)
before_trans a (y ∷ ys) [] e f = clash (sym f)
before_trans [] (y ∷ ys) (z ∷ zs) e f = refl
before_trans (x ∷ xs) (y ∷ ys) (z ∷ zs) e f =
    ⊎_elim
    (λ p. ⊎_elim (λ q. heads_less x z (before xs zs) (omega arith)) (λ q. heads_less x z (before xs zs) (omega (arith, q.0))) (heads y z (before ys zs) f))
    (λ p. ⊎_elim (λ q. heads_less x z (before xs zs) (omega (arith, p.0))) (λ q. heads_same x z (before xs zs) (p.0 ∙ q.0) (before_trans xs ys zs p.1 q.1)) (heads y z (before ys zs) f))
    (heads x y (before xs ys) e)

pub before_self : (a : Name) → before a a ≡ true → ⊥
before_self [] e = clash (sym e)
before_self (x ∷ xs) e = ⊎_elim (λ p. omega arith) (λ p. before_self xs p.1) (heads x x (before xs xs) e)

three : (a b : Name) → (a ≡ b) ⊎ ((before a b ≡ true) ⊎ (before b a ≡ true))
three [] [] = inl refl
three [] (y ∷ ys) = inr (inl refl)
three (x ∷ xs) [] = inr (inr refl)
three (x ∷ xs) (y ∷ ys) =
    ⊎_elim
    (λ p. ⊎_elim (λ q. inl (λ j. p j ∷ q j)) (⊎_elim (λ q. inr (inl (heads_same x y (before xs ys) p q))) (λ q. inr (inr (heads_same y x (before ys xs) (sym p) q)))) (three xs ys))
    (⊎_elim (λ p. inr (inl (heads_less x y (before xs ys) p))) (λ p. inr (inr (heads_less y x (before ys xs) p))))
    (cases_order x y)

-- what the order of two keys tells
pub order_tells : (a b : Name) (o : Ordering) → o ≡ order a b → MatchOrdering o (before a b ≡ true) (a ≡ b) (before b a ≡ true)
order_tells a b o e = go (same_name a b) (before a b) refl refl o e
  where
    go : (s t : Bool) → same_name a b ≡ s → before a b ≡ t → (o : Ordering) → o ≡ cond s Equal (cond t Less Greater) → MatchOrdering o (t ≡ true) (a ≡ b) (before b a ≡ true)
    go true t p q o f = subst (λ o. MatchOrdering o (t ≡ true) (a ≡ b) (before b a ≡ true)) (sym f) ((name_test a b).0 p)
    go false true p q o f = subst (λ o. MatchOrdering o (true ≡ true) (a ≡ b) (before b a ≡ true)) (sym f) refl
    go false false p q o f = subst (λ o. MatchOrdering o (false ≡ true) (a ≡ b) (before b a ≡ true)) (sym f) (⊎_elim (λ r. clash (sym ((name_test a b).1 r) ∙ p)) (⊎_elim (λ r. clash (sym r ∙ q)) (λ r. r)) (three a b))

other : (i j : ℕ) {a b : ℕ} → (i ≡ j → ⊥) → a ≡ b → cond (ltb j (suc i)) 1 0 + a ≡ cond (ltb j i) 1 0 + b
other i j h e = let same : cond (ltb j (suc i)) 1 0 ≡ cond (ltb j i) 1 0 = grind (arith, nat_tests) in (λ x. same x + e x)

module _ (key : ℕ → List ℕ) where
  after_before : (k l : List ℕ) (is : List ℕ) → before k l ≡ true → all_after key l is ≡ true → all_after key k is ≡ true
  after_before k l [] e f = refl
  after_before k l (i ∷ is) e f =
      let a = and_parts (before l (key i)) (all_after key l is) f in
      and_from (before k (key i)) (all_after key k is) (before_trans k l (key i) e a.0) (after_before k l is e a.1)

  after_at : (k : List ℕ) (is : List ℕ) (m : ℕ) → m < length is → all_after key k is ≡ true → before k (key (get_or is m 0)) ≡ true
  after_at k [] m h f = absurd (omega arith)
  after_at k (i ∷ is) zero h f = (and_parts (before k (key i)) (all_after key k is) f).0
  after_at k (i ∷ is) (suc m) h f = after_at k is m (omega arith) (and_parts (before k (key i)) (all_after key k is) f).1

  -- halving: what stands up to a smaller key is smaller, what stands from a larger key on is larger
  front : (k : List ℕ) (is : List ℕ) (m : ℕ) → m < length is → climbs key is ≡ true → before (key (get_or is m 0)) k ≡ true → all_before key k (take (suc m) is) ≡ true
  front k [] m h c e = absurd (omega arith)
  front k (i ∷ is) zero h c e = and_from (before (key i) k) true e refl
  front k (i ∷ is) (suc m) h c e =
      let a = and_parts (all_after key (key i) is) (climbs key is) c in
      and_from (before (key i) k) (all_before key k (take (suc m) is)) (before_trans (key i) (key (get_or is m 0)) k (after_at (key i) is m (omega arith) a.0) e) (front k is m (omega arith) a.1 e)

  pub up_to : (k : List ℕ) (is : List ℕ) (m : ℕ) → m < length is → climbs key is ≡ true → before (key (get_or is m 0)) k ≡ true → all_before key k (take (m + 1) is) ≡ true
  up_to k is m h c e = let s : m + 1 ≡ suc m = omega arith in ap (λ n. all_before key k (take n is)) s ∙ front k is m h c e

  pub from_on : (k : List ℕ) (is : List ℕ) (m : ℕ) → m < length is → climbs key is ≡ true → before k (key (get_or is m 0)) ≡ true → all_after key k (drop m is) ≡ true
  from_on k [] m h c e = absurd (omega arith)
  from_on k (i ∷ is) zero h c e = and_from (before k (key i)) (all_after key k is) e (after_before k (key i) is e (and_parts (all_after key (key i) is) (climbs key is) c).0)
  from_on k (i ∷ is) (suc m) h c e = from_on k is m (omega arith) (and_parts (all_after key (key i) is) (climbs key is) c).1 e

  -- one number more
  after_inserted : (k : List ℕ) (is : List ℕ) (p n : ℕ) → all_after key k is ≡ true → before k (key n) ≡ true → all_after key k (insert is p n) ≡ true
  after_inserted k is zero n a e = and_from (before k (key n)) (all_after key k is) e a
  after_inserted k [] (suc p) n a e = and_from (before k (key n)) true e refl
  after_inserted k (i ∷ is) (suc p) n a e =
      let b = and_parts (before k (key i)) (all_after key k is) a in
      and_from (before k (key i)) (all_after key k (insert is p n)) b.0 (after_inserted k is p n b.1 e)

  pub climbs_inserted : (is : List ℕ) (p n : ℕ) → climbs key is ≡ true → all_before key (key n) (take p is) ≡ true → all_after key (key n) (drop p is) ≡ true → climbs key (insert is p n) ≡ true
  climbs_inserted is zero n c f b = and_from (all_after key (key n) is) (climbs key is) b c
  climbs_inserted [] (suc p) n c f b = refl
  climbs_inserted (i ∷ is) (suc p) n c f b =
      let a = and_parts (all_after key (key i) is) (climbs key is) c in
      let g = and_parts (before (key i) (key n)) (all_before key (key n) (take p is)) f in
      and_from (all_after key (key i) (insert is p n)) (climbs key (insert is p n)) (after_inserted (key i) is p n a.0 g.0) (climbs_inserted is p n a.1 g.1 b)

  -- fewer numbers
  after_kept : (test : ℕ → Bool) (k : List ℕ) (is : List ℕ) → all_after key k is ≡ true → all_after key k (filter test is) ≡ true
  after_kept test k [] a = refl
  after_kept test k (i ∷ is) a = let b = and_parts (before k (key i)) (all_after key k is) a in go (test i) b.0 (after_kept test k is b.1)
    where
      go : (b : Bool) → before k (key i) ≡ true → all_after key k (filter test is) ≡ true → all_after key k (cond b (i ∷ filter test is) (filter test is)) ≡ true
      go true e r = and_from (before k (key i)) (all_after key k (filter test is)) e r
      go false e r = r

  pub climbs_kept : (test : ℕ → Bool) (is : List ℕ) → climbs key is ≡ true → climbs key (filter test is) ≡ true
  climbs_kept test [] a = refl
  climbs_kept test (i ∷ is) a = let b = and_parts (all_after key (key i) is) (climbs key is) a in go (test i) (after_kept test (key i) is b.0) (climbs_kept test is b.1)
    where
      go : (b : Bool) → all_after key (key i) (filter test is) ≡ true → climbs key (filter test is) ≡ true → climbs key (cond b (i ∷ filter test is) (filter test is)) ≡ true
      go true e r = and_from (all_after key (key i) (filter test is)) (climbs key (filter test is)) e r
      go false e r = r

  -- a key that has a gap is no number's
  pub not_there : (k : List ℕ) (is : List ℕ) (p i : ℕ) → all_before key k (take p is) ≡ true → all_after key k (drop p is) ≡ true → key i ≡ k → below (suc i) is ≡ below i is
  not_there k [] p i f b e = refl
  not_there k (j ∷ is) zero i f b e =
      let a = and_parts (before k (key j)) (all_after key k is) b in
      other i j (λ q. before_self k (ap (before k) (sym e ∙ ap key q) ∙ a.0)) (not_there k is zero i f a.1 e)
  not_there k (j ∷ is) (suc p) i f b e =
      let a = and_parts (before (key j) k) (all_before key k (take p is)) f in
      other i j (λ q. before_self k (ap (λ x. before x k) (sym e ∙ ap key q) ∙ a.0)) (not_there k is p i a.1 b e)

-- a key by another function that agrees on all numbers
module _ (key other_key : ℕ → List ℕ) (n : ℕ) (agree : (i : ℕ) → i < n → other_key i ≡ key i) where
  after_same : (k : List ℕ) (is : List ℕ) → all_below n is ≡ true → all_after key k is ≡ true → all_after other_key k is ≡ true
  after_same k [] l a = refl
  after_same k (i ∷ is) l a =
      let m = and_parts (ltb i n) (all_below n is) l in
      let b = and_parts (before k (key i)) (all_after key k is) a in
      and_from (before k (other_key i)) (all_after other_key k is) (ap (before k) (agree i (ltb-true i n m.0)) ∙ b.0) (after_same k is m.1 b.1)

  before_same : (k : List ℕ) (is : List ℕ) → all_below n is ≡ true → all_before key k is ≡ true → all_before other_key k is ≡ true
  before_same k [] l a = refl
  before_same k (i ∷ is) l a =
      let m = and_parts (ltb i n) (all_below n is) l in
      let b = and_parts (before (key i) k) (all_before key k is) a in
      and_from (before (other_key i) k) (all_before other_key k is) (ap (λ x. before x k) (agree i (ltb-true i n m.0)) ∙ b.0) (before_same k is m.1 b.1)

  pub climbs_same : (is : List ℕ) → all_below n is ≡ true → climbs key is ≡ true → climbs other_key is ≡ true
  climbs_same [] l a = refl
  climbs_same (i ∷ is) l a =
      let m = and_parts (ltb i n) (all_below n is) l in
      let b = and_parts (all_after key (key i) is) (climbs key is) a in
      and_from (all_after other_key (other_key i) is) (climbs other_key is) (ap (λ k. all_after other_key k is) (agree i (ltb-true i n m.0)) ∙ after_same (key i) is m.1 b.0) (climbs_same is m.1 b.1)

  below_take : (p : ℕ) (is : List ℕ) → all_below n is ≡ true → all_below n (take p is) ≡ true
  below_take zero is l = refl
  below_take (suc p) [] l = refl
  below_take (suc p) (i ∷ is) l = let m = and_parts (ltb i n) (all_below n is) l in and_from (ltb i n) (all_below n (take p is)) m.0 (below_take p is m.1)

  below_drop : (p : ℕ) (is : List ℕ) → all_below n is ≡ true → all_below n (drop p is) ≡ true
  below_drop zero is l = l
  below_drop (suc p) [] l = refl
  below_drop (suc p) (i ∷ is) l = below_drop p is (and_parts (ltb i n) (all_below n is) l).1

  pub gap_same : (is : List ℕ) (k : List ℕ) (p : ℕ) → all_below n is ≡ true → Gap key is k p → Gap other_key is k p
  gap_same is k p l g = record { within = g.within; front = before_same k (take p is) (below_take p is l) g.front; back = after_same k (drop p is) (below_drop p is l) g.back }

-- numbers below a limit
pub below_inserted : (k : ℕ) (is : List ℕ) (p n : ℕ) → below k (insert is p n) ≡ cond (ltb n k) 1 0 + below k is
below_inserted k is zero n = refl
below_inserted k [] (suc p) n = refl
below_inserted k (i ∷ is) (suc p) n = let r = below_inserted k is p n in omega arith

pub all_below_wider : (n m : ℕ) (is : List ℕ) → n ≤ m → all_below n is ≡ true → all_below m is ≡ true
all_below_wider n m [] h l = refl
all_below_wider n m (i ∷ is) h l = let a = and_parts (ltb i n) (all_below n is) l in let k = ltb-true i n a.0 in and_from (ltb i m) (all_below m is) (lt-ltb i m (omega arith)) (all_below_wider n m is h a.1)

pub all_below_inserted : (m : ℕ) (is : List ℕ) (p n : ℕ) → n < m → all_below m is ≡ true → all_below m (insert is p n) ≡ true
all_below_inserted m is zero n h l = and_from (ltb n m) (all_below m is) (lt-ltb n m h) l
all_below_inserted m [] (suc p) n h l = and_from (ltb n m) true (lt-ltb n m h) refl
all_below_inserted m (i ∷ is) (suc p) n h l = let a = and_parts (ltb i m) (all_below m is) l in and_from (ltb i m) (all_below m (insert is p n)) a.0 (all_below_inserted m is p n h a.1)

pub below_all : (n k : ℕ) (is : List ℕ) → n ≤ k → all_below n is ≡ true → below k is ≡ length is
below_all n k [] h l = refl
below_all n k (i ∷ is) h l =
    let a = and_parts (ltb i n) (all_below n is) l in
    let b = ltb-true i n a.0 in
    let r = below_all n k is h a.1 in
    ap (λ t. cond t 1 0 + below k is) (lt-ltb i k (omega arith)) ∙ omega arith

below_none : (is : List ℕ) → below 0 is ≡ 0
below_none [] = refl
below_none (i ∷ is) = let r = below_none is in ap (λ t. cond t 1 0 + below 0 is) (le-ltb i 0 (omega arith)) ∙ omega arith

pub counted_at : (n : ℕ) (is : List ℕ) (k : ℕ) → k ≤ n → counted n is ≡ true → below k is ≡ k
counted_at zero is k h c = let e : k ≡ 0 = omega arith in ap (λ x. below x is) e ∙ below_none is ∙ sym e
counted_at (suc n) is k h c =
    let a = and_parts (eqb (below (suc n) is) (suc n)) (counted n is) c in
    ⊎_elim (λ q. counted_at n is k (omega arith) a.1) (λ q. let e : k ≡ suc n = omega arith in ap (λ x. below x is) e ∙ eqb-true (below (suc n) is) (suc n) a.0 ∙ sym e) (cases_lt k (suc n))

pub counted_from : (n : ℕ) (is : List ℕ) → ((k : ℕ) → k ≤ n → below k is ≡ k) → counted n is ≡ true
counted_from zero is h = refl
counted_from (suc n) is h = and_from (eqb (below (suc n) is) (suc n)) (counted n is) (eq-eqb (below (suc n) is) (suc n) (h (suc n) (omega arith))) (counted_from n is (λ k q. h k (omega arith)))

abbrev pub under_limit : ℕ → List ℕ → List ℕ
under_limit n is = filter (λ x. ltb x n) is

pub below_kept : (n k : ℕ) (is : List ℕ) → k ≤ n → below k (under_limit n is) ≡ below k is
below_kept n k [] h = refl
below_kept n k (i ∷ is) h = go (ltb i n) refl (below_kept n k is h)
  where
    go : (b : Bool) → ltb i n ≡ b → below k (under_limit n is) ≡ below k is → below k (cond b (i ∷ under_limit n is) (under_limit n is)) ≡ cond (ltb i k) 1 0 + below k is
    go true e r = ap (λ x. cond (ltb i k) 1 0 + x) r
    go false e r = let z : ltb i k ≡ false = grind (arith, nat_tests) in r ∙ sym (ap (λ t. cond t 1 0 + below k is) z ∙ omega arith)

pub all_below_kept : (n : ℕ) (is : List ℕ) → all_below n (under_limit n is) ≡ true
all_below_kept n [] = refl
all_below_kept n (i ∷ is) = go (ltb i n) refl (all_below_kept n is)
  where
    go : (b : Bool) → ltb i n ≡ b → all_below n (under_limit n is) ≡ true → all_below n (cond b (i ∷ under_limit n is) (under_limit n is)) ≡ true
    go true e r = and_from (ltb i n) (all_below n (under_limit n is)) e r
    go false e r = r

pub all_below_at : (n : ℕ) (is : List ℕ) (m d : ℕ) → m < length is → all_below n is ≡ true → get_or is m d < n
all_below_at n [] m d h l = absurd (omega arith)
all_below_at n (i ∷ is) zero d h l = ltb-true i n (and_parts (ltb i n) (all_below n is) l).0
all_below_at n (i ∷ is) (suc m) d h l = all_below_at n is m d (omega arith) (and_parts (ltb i n) (all_below n is) l).1

-- the test of an index, taken apart
pub record Indexed (key : ℕ → List ℕ) (n : ℕ) (is : List ℕ) : Type 0 where
  pub climbs : climbs key is ≡ true
  pub low : all_below n is ≡ true
  pub counts : counted n is ≡ true

pub indexed_from_test : (bs : List ℕ) (ms : List Member) (ns : List Node) (is : List ℕ) → sound_index bs ms ns is ≡ true → Indexed (key_at bs ms ns) (length ns) is
unfolding sound_index
indexed_from_test bs ms ns is e =
    let a = and_parts (climbs (key_at bs ms ns) is) (all_below (length ns) is && counted (length ns) is) e in
    let b = and_parts (all_below (length ns) is) (counted (length ns) is) a.1 in
    record { climbs = a.0; low = b.0; counts = b.1 }

pub test_from_indexed : (bs : List ℕ) (ms : List Member) (ns : List Node) (is : List ℕ) → Indexed (key_at bs ms ns) (length ns) is → sound_index bs ms ns is ≡ true
unfolding sound_index
test_from_indexed bs ms ns is x =
    and_from (climbs (key_at bs ms ns) is) (all_below (length ns) is && counted (length ns) is) x.climbs (and_from (all_below (length ns) is) (counted (length ns) is) x.low x.counts)

-- the index with a number more, at its place
pub indexed_inserted : (key : ℕ → List ℕ) (n : ℕ) (is : List ℕ) (p : ℕ) → Indexed key n is → length is ≡ n → Gap key is (key n) p → Indexed key (n + 1) (insert is p n)
indexed_inserted key n is p x l g =
    record {
      climbs = climbs_inserted key is p n x.climbs g.front g.back;
      low = all_below_inserted (n + 1) is p n (omega arith) (all_below_wider n (n + 1) is (omega arith) x.low);
      counts = counted_from (n + 1) (insert is p n) (λ k h. ⊎_elim (λ q. old k (omega arith)) (λ q. new k h (omega arith)) (cases_lt k (n + 1)));
    }
  where
    old : (k : ℕ) → k ≤ n → below k (insert is p n) ≡ k
    old k h = below_inserted k is p n ∙ ap (λ b. cond b 1 0 + below k is) (le-ltb n k h) ∙ omega (arith, counted_at n is k h x.counts)

    new : (k : ℕ) → k ≤ n + 1 → n < k → below k (insert is p n) ≡ k
    new k h q = below_inserted k is p n ∙ ap (λ b. cond b 1 0 + below k is) (lt-ltb n k q) ∙ omega (arith, below_all n k is (omega arith) x.low)

-- the index of the numbers below a limit
pub indexed_kept : (key : ℕ → List ℕ) (n m : ℕ) (is : List ℕ) → m ≤ n → Indexed key n is → Indexed key m (under_limit m is)
indexed_kept key n m is h x =
    record {
      climbs = climbs_kept key (λ i. ltb i m) is x.climbs;
      low = all_below_kept m is;
      counts = counted_from m (under_limit m is) (λ k q. below_kept m k is q ∙ counted_at n is k (omega arith) x.counts);
    }

pub length_kept : (key : ℕ → List ℕ) (n m : ℕ) (is : List ℕ) → m ≤ n → Indexed key n is → length (under_limit m is) ≡ m
length_kept key n m is h x =
    sym (below_all m m (under_limit m is) (omega arith) (all_below_kept m is)) ∙ below_kept m m is (omega arith) ∙ counted_at n is m h x.counts

-- an index by another function that agrees on all numbers
pub indexed_same : (key other_key : ℕ → List ℕ) (n : ℕ) (is : List ℕ) → ((i : ℕ) → i < n → other_key i ≡ key i) → Indexed key n is → Indexed other_key n is
indexed_same key other_key n is agree x = record { climbs = climbs_same key other_key n agree is x.low x.climbs; low = x.low; counts = x.counts }

-- no number of an index has a key that has a gap
pub no_number : (key : ℕ → List ℕ) (n : ℕ) (is : List ℕ) (k : List ℕ) (p i : ℕ) → Indexed key n is → Gap key is k p → i < n → key i ≡ k → ⊥
no_number key n is k p i x g h e =
    let a = counted_at n is (suc i) (omega arith) x.counts in
    let b = counted_at n is i (omega arith) x.counts in
    let c = not_there key k is p i g.front g.back e in
    omega arith
