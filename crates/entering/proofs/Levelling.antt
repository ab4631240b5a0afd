-- The lines of values and members as bytes, taken apart from the front. Assumes nothing.
use Rattle.std.proofs.Common.{◌≡◌, ℕ, ◌+◌, ◌-◌, ◌<◌, ◌≤◌, Bool, true, false, cond, not, ◌&&◌, eqb, ltb, leb, List, [], ◌∷◌, ◌++◌, length, get_or, take, drop, sym, refl, ap, ◌∙◌, subst, append_assoc, arith}
use Rattle.std.proofs.lemmas.Bool.{and_parts}
use Rattle.std.proofs.lemmas.List.{append_cancel_left, length-append, get_or_at, take_at, drop_at, take_rest}
use Rattle.std.proofs.lemmas.Bool.Decides.{nat_tests}
use Rattle.values.specs.Values.{Name, Value, text, truth, binding, Members, nil, cons, before}
use Rattle.values.specs.Limits.{dots, name_byte, name_bytes, fit, many, height, small, all_small, first_after, ordered, all_ordered, named, all_named}
use Rattle.trees.specs.Lines.{Leaf, text_leaf, truth_leaf, empty_leaf, leaf_value}
use Rattle.trees.proofs.Splits.{no}
use Rattle.entering.specs.Levels.{leaf_bytes, leaf_line, value_bytes, binding_bytes, member_bytes, front_name, Ends, Sound, Level, Placed, Single}
use Rattle.entering.proofs.Bytes.{front_is}

-- a value's lines begin with its path, and a byte that is in no name
pub record Fronted (p : List ℕ) (bytes : List ℕ) : Type 0 where
  pub mark : ℕ
  pub rest : List ℕ
  pub no_name : name_byte mark ≡ false
  pub is : bytes ≡ p ++ mark ∷ rest

regroup : (p n r : List ℕ) (z : ℕ) (s : List ℕ) → (((p ++ 47 ∷ []) ++ n) ++ z ∷ r) ++ s ≡ p ++ 47 ∷ (n ++ z ∷ (r ++ s))
regroup p n r z s = simp append_assoc

mutual
  unfolding value_bytes

  pub value_front : (p : List ℕ) (v : Value) → Fronted p (value_bytes p v)
  value_front p (text s) = record { mark = 9; rest = leaf_bytes (text_leaf s) ++ 10 ∷ []; no_name = refl; is = refl }
  value_front p (truth b) = record { mark = 9; rest = leaf_bytes (truth_leaf b) ++ 10 ∷ []; no_name = refl; is = refl }
  value_front p (binding ms) = binding_front p ms

  binding_front : (p : List ℕ) (ms : Members) → Fronted p (binding_bytes p ms)
  binding_front p nil = record { mark = 9; rest = leaf_bytes empty_leaf ++ 10 ∷ []; no_name = refl; is = refl }
  binding_front p (cons n v ms) =
      let f = value_front ((p ++ 47 ∷ []) ++ n) v in
      record { mark = 47; rest = n ++ f.mark ∷ (f.rest ++ member_bytes (p ++ 47 ∷ []) ms); no_name = refl; is = ap (λ l. l ++ member_bytes (p ++ 47 ∷ []) ms) f.is ∙ regroup p n f.rest f.mark (member_bytes (p ++ 47 ∷ []) ms) }

-- a value is a leaf, or a binding with members
pub data Shape (p : List ℕ) (v : Value) : Type 0 where
  leaf : (c : Leaf) → v ≡ leaf_value c → value_bytes p v ≡ p ++ leaf_line c [] → Shape p v
  members : (n : Name) (w : Value) (ms : Members) → v ≡ binding (cons n w ms) → (t : List ℕ) → value_bytes p v ≡ p ++ 47 ∷ t → Shape p v

pub shape : (p : List ℕ) (v : Value) → Shape p v
unfolding value_bytes
shape p (text s) = leaf (text_leaf s) refl refl
shape p (truth b) = leaf (truth_leaf b) refl refl
shape p (binding nil) = leaf empty_leaf refl refl
shape p (binding (cons n v ms)) =
    let f = value_front ((p ++ 47 ∷ []) ++ n) v in
    members n v ms refl (n ++ f.mark ∷ (f.rest ++ member_bytes (p ++ 47 ∷ []) ms)) (ap (λ l. l ++ member_bytes (p ++ 47 ∷ []) ms) f.is ∙ regroup p n f.rest f.mark (member_bytes (p ++ 47 ∷ []) ms))

pub inner : (p : List ℕ) (n : Name) (v : Value) (ms : Members) → value_bytes p (binding (cons n v ms)) ≡ member_bytes (p ++ 47 ∷ []) (cons n v ms)
unfolding value_bytes
inner p n v ms = refl

pub first : (q : List ℕ) (n : Name) (v : Value) (ms : Members) → member_bytes q (cons n v ms) ≡ value_bytes (q ++ n) v ++ member_bytes q ms
unfolding value_bytes
first q n v ms = refl

pub none_left : (q : List ℕ) → member_bytes q nil ≡ []
unfolding value_bytes
none_left q = refl

pub fit_bytes : (n : Name) → fit n ≡ true → name_bytes n ≡ true
fit_bytes n e =
    let a = and_parts (leb 1 (length n)) (leb (length n) 32 && (not (dots n) && name_bytes n)) e in
    let b = and_parts (leb (length n) 32) (not (dots n) && name_bytes n) a.1 in
    (and_parts (not (dots n)) (name_bytes n) b.1).1

pub fit_short : (n : Name) → fit n ≡ true → length n ≤ 32
fit_short n e =
    let a = and_parts (leb 1 (length n)) (leb (length n) 32 && (not (dots n) && name_bytes n)) e in
    let b = (and_parts (leb (length n) 32) (not (dots n) && name_bytes n) a.1).0 in
    grind (arith, nat_tests)

-- what follows a member does not belong to it
before_self : (n : Name) → before n n ≡ false
before_self [] = refl
before_self (b ∷ n) = go (ltb b b) (eqb b b) never_below (before_self n)
  where
    never_below : ltb b b ≡ false
    never_below = grind (arith, nat_tests)

    go : (x y : Bool) → x ≡ false → before n n ≡ false → cond x true (y && before n n) ≡ false
    go true y e h = no e
    go false true e h = h
    go false false e h = refl

split_name : (q n : List ℕ) (r : List ℕ) → ((q ++ n) ++ 47 ∷ []) ++ r ≡ q ++ (n ++ 47 ∷ r)
split_name q n r = simp append_assoc

first_member : (q m : List ℕ) (z : ℕ) (r a b : List ℕ) → (((q ++ m) ++ z ∷ r) ++ a) ++ b ≡ q ++ (m ++ z ∷ (r ++ (a ++ b)))
first_member q m z r a b = simp append_assoc

pub next_ends : (q : List ℕ) (n : Name) (ms : Members) (after : List ℕ) → fit n ≡ true → all_named ms ≡ true → first_after n ms ≡ true → Ends q after → Ends ((q ++ n) ++ 47 ∷ []) (member_bytes q ms ++ after)
unfolding value_bytes
next_ends q n nil after f g o h = λ k. h (record { begins = record { rest = n ++ 47 ∷ k.begins.rest; is = k.begins.is ∙ split_name q n k.begins.rest }; some_left = k.some_left })
next_ends q n (cons m w ms) after f g o h = λ k.
    let a = value_front (q ++ m) w in
    let there : (value_bytes (q ++ m) w ++ member_bytes q ms) ++ after ≡ q ++ (m ++ a.mark ∷ (a.rest ++ (member_bytes q ms ++ after))) =
    ap (λ l. (l ++ member_bytes q ms) ++ after) a.is ∙ first_member q m a.mark a.rest (member_bytes q ms) after in
    let same : m ++ a.mark ∷ (a.rest ++ (member_bytes q ms ++ after)) ≡ n ++ 47 ∷ k.begins.rest =
    append_cancel_left q _ _ (sym there ∙ k.begins.is ∙ split_name q n k.begins.rest) in
    let fm = (and_parts (fit m) (named w && all_named ms) g).0 in
    let names : m ≡ n = sym (front_is m a.mark (a.rest ++ (member_bytes q ms ++ after)) (fit_bytes m fm) a.no_name) ∙ ap front_name same ∙ front_is n 47 k.begins.rest (fit_bytes n f) refl in
    no (sym o ∙ ap (before n) names ∙ before_self n)

-- the first of the members to come
pub the_single : (q bytes : List ℕ) (levels : ℕ) (n : Name) (v : Value) (ms : Members) (after : List ℕ) → bytes ≡ member_bytes q (cons n v ms) ++ after → Ends q after → Sound (cons n v ms) levels → levels ≤ 16 → Single q bytes levels n v (member_bytes q ms ++ after)
the_single q bytes levels n v ms after e h s l =
    let small-both = and_parts (small v) (all_small ms) s.are_small in
    let named-first = and_parts (fit n) (named v && all_named ms) s.are_named in
    let named-both = and_parts (named v) (all_named ms) named-first.1 in
    let ordered-first = and_parts (ordered v) (first_after n ms && all_ordered ms) s.are_ordered in
    let ordered-both = and_parts (first_after n ms) (all_ordered ms) ordered-first.1 in
    let low = s.low in
    record {
      fits = named-first.0;
      placed = record {
        lines = e ∙ ap (λ b. b ++ after) (first q n v ms) ∙ append_assoc (value_bytes (q ++ n) v) (member_bytes q ms) after;
        ends = next_ends q n ms after named-first.0 named-both.1 ordered-both.0 h;
        is_small = small-both.0;
        is_ordered = ordered-first.0;
        is_named = named-both.0;
        low = omega arith;
        shallow = l;
      };
    }

pub the_others : (levels : ℕ) (n : Name) (v : Value) (ms : Members) → Sound (cons n v ms) levels → Sound ms levels
the_others levels n v ms s =
    let low = s.low in
    record {
      are_small = (and_parts (small v) (all_small ms) s.are_small).1;
      are_ordered = (and_parts (first_after n ms) (all_ordered ms) (and_parts (ordered v) (first_after n ms && all_ordered ms) s.are_ordered).1).1;
      are_named = (and_parts (named v) (all_named ms) (and_parts (fit n) (named v && all_named ms) s.are_named).1).1;
      low = omega arith;
    }

-- a binding with members, one level down
pub the_level : (p bytes : List ℕ) (levels : ℕ) (n : Name) (w : Value) (ms : Members) (v : Value) (after : List ℕ) → v ≡ binding (cons n w ms) → Placed p bytes levels v after → Level (p ++ 47 ∷ []) bytes (levels - 1) (cons n w ms) after
the_level p bytes levels n w ms v after e h =
    let small-both = and_parts (leb (many (cons n w ms)) 64) (all_small (cons n w ms)) (sym (ap small e) ∙ h.is_small) in
    let low = h.low in
    let high = ap height e in
    let shallow = h.shallow in
    record {
      lines = h.lines ∙ ap (λ x. value_bytes p x ++ after) e ∙ ap (λ b. b ++ after) (inner p n w ms);
      ends = h.ends;
      sound = record {
        are_small = small-both.1;
        are_ordered = sym (ap ordered e) ∙ h.is_ordered;
        are_named = sym (ap named e) ∙ h.is_named;
        low = omega arith;
      };
      few = at_most (many (cons n w ms)) small-both.0;
      shallow = omega arith;
    }
  where
    at_most : (a : ℕ) → leb a 64 ≡ true → a ≤ 64
    at_most a k = grind (arith, nat_tests)

-- what stands behind a value moves in
leaf_rest : (p : List ℕ) (c : Leaf) (after : List ℕ) → (p ++ leaf_line c []) ++ after ≡ p ++ leaf_line c after
leaf_rest p c after = append_assoc p (leaf_line c []) after ∙ ap (λ l. p ++ 9 ∷ l) (append_assoc (leaf_bytes c) (10 ∷ []) after)

tab_rest : (p : List ℕ) (c : Leaf) (after : List ℕ) → (p ++ leaf_line c []) ++ after ≡ (p ++ 9 ∷ []) ++ (leaf_bytes c ++ 10 ∷ after)
tab_rest p c after = leaf_rest p c after ∙ sym (append_assoc p (9 ∷ []) (leaf_bytes c ++ 10 ∷ after))

slash_rest : (p t after : List ℕ) → (p ++ 47 ∷ t) ++ after ≡ (p ++ 47 ∷ []) ++ (t ++ after)
slash_rest p t after = append_assoc p (47 ∷ t) after ∙ sym (append_assoc p (47 ∷ []) (t ++ after))

-- a member's name of r bytes, and the path to its value
pub record CutOut (prefix bytes : List ℕ) (levels : ℕ) (n : Name) (v : Value) (after : List ℕ) (r : ℕ) : Type 0 where
  pub within : length prefix + r < length bytes
  pub name : take (length prefix + r - length prefix) (drop (length prefix) bytes) ≡ n
  pub short : length n ≤ 32
  pub placed : Placed (take (length prefix + r) bytes) bytes levels v after

pub cut_out : (prefix bytes : List ℕ) (levels : ℕ) (n : Name) (v : Value) (after : List ℕ) (r : ℕ) → Single prefix bytes levels n v after → r ≡ length (front_name (take (length bytes - length prefix) (drop (length prefix) bytes))) → CutOut prefix bytes levels n v after r
cut_out prefix bytes levels n v after r s k =
    let f = value_front (prefix ++ n) v in
    let tail = f.mark ∷ (f.rest ++ after) in
    let whole : bytes ≡ (prefix ++ n) ++ tail = s.placed.lines ∙ ap (λ b. b ++ after) f.is ∙ append_assoc (prefix ++ n) (f.mark ∷ f.rest) after in
    let behind : drop (length prefix) bytes ≡ n ++ tail = ap (drop (length prefix)) (whole ∙ append_assoc prefix n tail) ∙ drop_at prefix (n ++ tail) (length prefix) refl in
    let front : front_name (take (length bytes - length prefix) (drop (length prefix) bytes)) ≡ n = ap front_name (take_rest bytes (length prefix) ∙ behind) ∙ front_is n f.mark (f.rest ++ after) (fit_bytes n s.fits) f.no_name in
    let size : r ≡ length n = k ∙ ap length front in
    let long = ap length whole ∙ length-append (prefix ++ n) tail in
    let sum = length-append prefix n in
    record {
      within = omega arith;
      name = ap (take (length prefix + r - length prefix)) behind ∙ take_at n tail (length prefix + r - length prefix) (omega arith);
      short = fit_short n s.fits;
      placed = subst (λ p. Placed p bytes levels v after) (sym (ap (take (length prefix + r)) whole ∙ take_at (prefix ++ n) tail (length prefix + r) (omega arith))) s.placed;
    }

-- the byte behind a value's path
pub inside : (p bytes : List ℕ) (levels : ℕ) (v : Value) (after : List ℕ) → Placed p bytes levels v after → length p < length bytes
inside p bytes levels v after h =
    let f = value_front p v in
    let long = ap length (h.lines ∙ ap (λ b. b ++ after) f.is ∙ append_assoc p (f.mark ∷ f.rest) after) ∙ length-append p (f.mark ∷ (f.rest ++ after)) in
    omega arith

pub behind_prefix : (prefix bytes : List ℕ) (levels : ℕ) (n : Name) (v : Value) (after : List ℕ) → Single prefix bytes levels n v after → length prefix < length bytes
behind_prefix prefix bytes levels n v after s =
    let k = inside (prefix ++ n) bytes levels v after s.placed in
    let sum = length-append prefix n in
    omega arith

pub record Deeper (p bytes : List ℕ) (levels : ℕ) (v : Value) (after : List ℕ) : Type 0 where
  pub below : Members
  pub is : v ≡ binding below
  pub level : Level (take (length p + 1) bytes) bytes (levels - 1) below after

pub at_slash : (p bytes : List ℕ) (levels : ℕ) (v : Value) (after : List ℕ) → Placed p bytes levels v after → get_or bytes (length p) 0 ≡ 47 → Deeper p bytes levels v after
at_slash p bytes levels v after h k = go (shape p v)
  where
    go : Shape p v → Deeper p bytes levels v after
    go (leaf c e f) =
        let there : bytes ≡ p ++ leaf_line c after = h.lines ∙ ap (λ b. b ++ after) f ∙ leaf_rest p c after in
        let nine : ◌≡◌ {A = ℕ} 9 47 = sym (get_or_at p 9 (leaf_bytes c ++ 10 ∷ after) 0 (length p) refl) ∙ sym (ap (λ b. get_or b (length p) 0) there) ∙ k in
        absurd (omega arith)
    go (members n w ms e t f) =
        let there : bytes ≡ (p ++ 47 ∷ []) ++ (t ++ after) = h.lines ∙ ap (λ b. b ++ after) f ∙ slash_rest p t after in
        let long = length-append p (47 ∷ []) in
        let front : take (length p + 1) bytes ≡ p ++ 47 ∷ [] = ap (take (length p + 1)) there ∙ take_at (p ++ 47 ∷ []) (t ++ after) (length p + 1) (omega arith) in
        record { below = cons n w ms; is = e; level = subst (λ q. Level q bytes (levels - 1) (cons n w ms) after) (sym front) (the_level p bytes levels n w ms v after e h) }

pub record Ended (p bytes : List ℕ) (v : Value) (after : List ℕ) : Type 0 where
  pub end : Leaf
  pub is : v ≡ leaf_value end
  pub line : take (length bytes - (length p + 1)) (drop (length p + 1) bytes) ≡ leaf_bytes end ++ 10 ∷ after
  pub is_small : small (leaf_value end) ≡ true

pub at_tab : (p bytes : List ℕ) (levels : ℕ) (v : Value) (after : List ℕ) → Placed p bytes levels v after → (get_or bytes (length p) 0 ≡ 47 → ⊥) → Ended p bytes v after
at_tab p bytes levels v after h k = go (shape p v)
  where
    go : Shape p v → Ended p bytes v after
    go (leaf c e f) =
        let there : bytes ≡ (p ++ 9 ∷ []) ++ (leaf_bytes c ++ 10 ∷ after) = h.lines ∙ ap (λ b. b ++ after) f ∙ tab_rest p c after in
        let long = length-append p (9 ∷ []) in
        record {
          end = c;
          is = e;
          line = take_rest bytes (length p + 1) ∙ ap (drop (length p + 1)) there ∙ drop_at (p ++ 9 ∷ []) (leaf_bytes c ++ 10 ∷ after) (length p + 1) (omega arith);
          is_small = sym (ap small e) ∙ h.is_small;
        }
    go (members n w ms e t f) =
        let there : bytes ≡ p ++ 47 ∷ (t ++ after) = h.lines ∙ ap (λ b. b ++ after) f ∙ append_assoc p (47 ∷ t) after in
        absurd (k (ap (λ b. get_or b (length p) 0) there ∙ get_or_at p 47 (t ++ after) 0 (length p) refl))
