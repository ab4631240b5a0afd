-- Parts and separators, escapes. Assumes nothing.
use Rattle.std.proofs.Common.{◌≡◌, ℕ, Bool, true, false, cond, not, ◌&&◌, eqb, List, [], ◌∷◌, ◌++◌, sym, refl, ap, ◌∙◌, arith}
use Rattle.std.proofs.lemmas.Bool.{and_parts, and_from, eq-eqb, eqb-true, not-true}
use mathlib.Core.Option.{Option, none, some}
use Rattle.values.specs.Values.{and_then}
use Rattle.values.specs.Limits.{name_byte, name_bytes}
use Rattle.trees.specs.Cuts.{free}
use Rattle.trees.specs.Files.{push, split, joined, escape, plain, prefixed, unescape, paired}

pub no : {P : Type 0} → true ≡ false → P
no e = let z : ◌≡◌ {A = ℕ} 0 1 = cc in absurd (omega arith)

pub split_front : (z : ℕ) (p rest : List ℕ) → free z p ≡ true → split z (p ++ z ∷ rest) ≡ p ∷ split z rest
split_front z [] rest f = ap (λ b. cond b ([] ∷ split z rest) (push z (split z rest))) (eq-eqb z z refl)
split_front z (b ∷ p) rest f =
    let f2 = and_parts (not (eqb b z)) (free z p) f in
    ap (λ x. cond x ([] ∷ split z (p ++ z ∷ rest)) (push b (split z (p ++ z ∷ rest)))) (not-true (eqb b z) f2.0) ∙ ap (push b) (split_front z p rest f2.1)

pub split_free : (z : ℕ) (p : List ℕ) → free z p ≡ true → split z p ≡ p ∷ []
split_free z [] f = refl
split_free z (b ∷ p) f =
    let f2 = and_parts (not (eqb b z)) (free z p) f in
    ap (λ x. cond x ([] ∷ split z p) (push b (split z p))) (not-true (eqb b z) f2.0) ∙ ap (push b) (split_free z p f2.1)

abbrev pub all_free : ℕ → List (List ℕ) → Bool
all_free z [] = true
all_free z (p ∷ ps) = free z p && all_free z ps

pub split_joined : (z : ℕ) (p : List ℕ) (ps : List (List ℕ)) → all_free z (p ∷ ps) ≡ true → split z (joined z (p ∷ ps)) ≡ p ∷ ps
split_joined z p [] f = split_free z p (and_parts (free z p) true f).0
split_joined z p (q ∷ ps) f =
    let f2 = and_parts (free z p) (all_free z (q ∷ ps)) f in
    split_front z p (joined z (q ∷ ps)) f2.0 ∙ ap (λ r. p ∷ r) (split_joined z q ps f2.1)

push_some : (b : ℕ) (ps : List (List ℕ)) → (q : List ℕ) × (qs : List (List ℕ)) × (push b ps ≡ q ∷ qs)
push_some b [] = (b ∷ [], [], refl)
push_some b (p ∷ ps) = (b ∷ p, ps, refl)

pub split_some : (z : ℕ) (bs : List ℕ) → (q : List ℕ) × (qs : List (List ℕ)) × (split z bs ≡ q ∷ qs)
split_some z [] = ([], [], refl)
split_some z (b ∷ bs) = go (eqb b z)
  where
    go : (x : Bool) → (q : List ℕ) × (qs : List (List ℕ)) × (cond x ([] ∷ split z bs) (push b (split z bs)) ≡ q ∷ qs)
    go true = ([], split z bs, refl)
    go false = push_some b (split z bs)

joined_push : (z b : ℕ) (q : List ℕ) (qs : List (List ℕ)) → joined z ((b ∷ q) ∷ qs) ≡ b ∷ joined z (q ∷ qs)
joined_push z b q [] = refl
joined_push z b q (r ∷ qs) = refl

pub joined_split : (z : ℕ) (bs : List ℕ) → joined z (split z bs) ≡ bs
joined_split z [] = refl
joined_split z (b ∷ bs) = go (eqb b z) refl (split_some z bs) (joined_split z bs)
  where
    go : (x : Bool) → eqb b z ≡ x → ((q : List ℕ) × (qs : List (List ℕ)) × (split z bs ≡ q ∷ qs)) → joined z (split z bs) ≡ bs → joined z (cond x ([] ∷ split z bs) (push b (split z bs))) ≡ b ∷ bs
    go true e s h = ap (λ r. joined z ([] ∷ r)) s.2 ∙ (λ j. sym (eqb-true b z e) j ∷ (ap (joined z) (sym s.2) ∙ h) j)
    go false e s h = ap (λ r. joined z (push b r)) s.2 ∙ joined_push z b s.0 s.1 ∙ ap (λ r. b ∷ r) (ap (joined z) (sym s.2) ∙ h)

-- names have no separators
pub free_name : (z : ℕ) → name_byte z ≡ false → (n : List ℕ) → name_bytes n ≡ true → free z n ≡ true
free_name z f [] e = refl
free_name z f (b ∷ n) e =
    let e2 = and_parts (name_byte b) (name_bytes n) e in
    and_from (not (eqb b z)) (free z n) (go (eqb b z) refl e2.0) (free_name z f n e2.1)
  where
    go : (x : Bool) → eqb b z ≡ x → name_byte b ≡ true → not x ≡ true
    go false q g = refl
    go true q g = no (sym g ∙ ap name_byte (eqb-true b z q) ∙ f)

pub free_both : (z : ℕ) (p q : List ℕ) → free z p ≡ true → free z q ≡ true → free z (p ++ q) ≡ true
free_both z [] q e f = f
free_both z (b ∷ p) q e f = let e2 = and_parts (not (eqb b z)) (free z p) e in and_from (not (eqb b z)) (free z (p ++ q)) e2.0 (free_both z p q e2.1 f)

pub free_joined : (z y : ℕ) (ps : List (List ℕ)) → eqb y z ≡ false → all_free z ps ≡ true → free z (joined y ps) ≡ true
free_joined z y [] e f = refl
free_joined z y (p ∷ []) e f = (and_parts (free z p) true f).0
free_joined z y (p ∷ q ∷ ps) e f =
    let f2 = and_parts (free z p) (all_free z (q ∷ ps)) f in
    free_both z p (y ∷ joined y (q ∷ ps)) f2.0 (and_from (not (eqb y z)) (free z (joined y (q ∷ ps))) (ap not e) (free_joined z y (q ∷ ps) e f2.1))

-- escapes hold no line feed and no tab
pub free_escape : (z : ℕ) → eqb 92 z ≡ false → eqb 110 z ≡ false → eqb 116 z ≡ false → ((b : ℕ) → plain b ≡ true → eqb b z ≡ false) → (bs : List ℕ) → free z (escape bs) ≡ true
free_escape z s n t p [] = refl
free_escape z s n t p (b ∷ bs) = go (eqb b 10) (eqb b 9) (eqb b 92) (p b) (free_escape z s n t p bs)
  where
    two : (x y : ℕ) → eqb x z ≡ false → eqb y z ≡ false → free z (escape bs) ≡ true → free z (x ∷ y ∷ escape bs) ≡ true
    two x y e f h = and_from (not (eqb x z)) (free z (y ∷ escape bs)) (ap not e) (and_from (not (eqb y z)) (free z (escape bs)) (ap not f) h)

    go : (x y w : Bool) → (cond x false (cond y false (cond w false true)) ≡ true → eqb b z ≡ false) → free z (escape bs) ≡ true → free z (cond x (92 ∷ 110 ∷ escape bs) (cond y (92 ∷ 116 ∷ escape bs) (cond w (92 ∷ 92 ∷ escape bs) (b ∷ escape bs)))) ≡ true
    go true y w q h = two 92 110 s n h
    go false true w q h = two 92 116 s t h
    go false false true q h = two 92 92 s s h
    go false false false q h = and_from (not (eqb b z)) (free z (escape bs)) (ap not (q refl)) h

-- what is escaped is meant
pub unescape_escape : (bs : List ℕ) → unescape (escape bs) ≡ some bs
unescape_escape [] = refl
unescape_escape (b ∷ bs) = go (eqb b 10) (eqb b 9) (eqb b 92) refl refl refl (unescape_escape bs)
  where
    go : (x y w : Bool) → eqb b 10 ≡ x → eqb b 9 ≡ y → eqb b 92 ≡ w → unescape (escape bs) ≡ some bs → unescape (cond x (92 ∷ 110 ∷ escape bs) (cond y (92 ∷ 116 ∷ escape bs) (cond w (92 ∷ 92 ∷ escape bs) (b ∷ escape bs)))) ≡ some (b ∷ bs)
    go true y w e f g h = ap (prefixed 10) h ∙ ap (λ a. some (a ∷ bs)) (sym (eqb-true b 10 e))
    go false true w e f g h = ap (prefixed 9) h ∙ ap (λ a. some (a ∷ bs)) (sym (eqb-true b 9 f))
    go false false true e f g h = ap (prefixed 92) h ∙ ap (λ a. some (a ∷ bs)) (sym (eqb-true b 92 g))
    go false false false e f g h = (λ j. cond (g j) (paired (escape bs)) (cond (cond (e j) false (cond (f j) false (cond (g j) false true))) (prefixed b (unescape (escape bs))) none)) ∙ ap (prefixed b) h

front_some : (b : ℕ) (o : Option (List ℕ)) (t : List ℕ) → prefixed b o ≡ some t → (u : List ℕ) × (o ≡ some u) × (b ∷ u ≡ t)
front_some b none t e = let z : ◌≡◌ {A = ℕ} 0 1 = cc in absurd (omega arith)
front_some b (some u) t e = (u, refl, cc)

escape_plain : (b : ℕ) (t : List ℕ) → plain b ≡ true → escape (b ∷ t) ≡ b ∷ escape t
escape_plain b t = go (eqb b 10) (eqb b 9) (eqb b 92)
  where
    go : (x y w : Bool) → cond x false (cond y false (cond w false true)) ≡ true → cond x (92 ∷ 110 ∷ escape t) (cond y (92 ∷ 116 ∷ escape t) (cond w (92 ∷ 92 ∷ escape t) (b ∷ escape t))) ≡ b ∷ escape t
    go true y w e = no (sym e)
    go false true w e = no (sym e)
    go false false true e = no (sym e)
    go false false false e = refl

un_plain : (b : ℕ) (bs t : List ℕ) → ((u : List ℕ) → unescape bs ≡ some u → escape u ≡ bs) → ((u : List ℕ) → paired bs ≡ some u → escape u ≡ 92 ∷ bs) → unescape (b ∷ bs) ≡ some t → escape t ≡ b ∷ bs
un_plain b bs t h k = go (eqb b 92) (plain b) refl refl
  where
    go : (x y : Bool) → eqb b 92 ≡ x → plain b ≡ y → cond x (paired bs) (cond y (prefixed b (unescape bs)) none) ≡ some t → escape t ≡ b ∷ bs
    go true y e f q = k t q ∙ ap (λ a. a ∷ bs) (sym (eqb-true b 92 e))
    go false true e f q =
        let s = front_some b (unescape bs) t q in
        sym (ap escape s.2) ∙ escape_plain b s.0 f ∙ ap (λ r. b ∷ r) (h s.0 s.1)
    go false false e f q = let z : ◌≡◌ {A = ℕ} 0 1 = cc in absurd (omega arith)

un_pair : (b : ℕ) (bs t : List ℕ) → ((u : List ℕ) → unescape bs ≡ some u → escape u ≡ bs) → paired (b ∷ bs) ≡ some t → escape t ≡ 92 ∷ b ∷ bs
un_pair b bs t h = go (eqb b 110) (eqb b 116) (eqb b 92) refl refl refl
  where
    go : (x y w : Bool) → eqb b 110 ≡ x → eqb b 116 ≡ y → eqb b 92 ≡ w → and_then (cond x (some 10) (cond y (some 9) (cond w (some 92) none))) (λ m. prefixed m (unescape bs)) ≡ some t → escape t ≡ 92 ∷ b ∷ bs
    go true y w e f g q = let s = front_some 10 (unescape bs) t q in sym (ap escape s.2) ∙ (λ j. 92 ∷ sym (eqb-true b 110 e) j ∷ h s.0 s.1 j)
    go false true w e f g q = let s = front_some 9 (unescape bs) t q in sym (ap escape s.2) ∙ (λ j. 92 ∷ sym (eqb-true b 116 f) j ∷ h s.0 s.1 j)
    go false false true e f g q = let s = front_some 92 (unescape bs) t q in sym (ap escape s.2) ∙ (λ j. 92 ∷ sym (eqb-true b 92 g) j ∷ h s.0 s.1 j)
    go false false false e f g q = let z : ◌≡◌ {A = ℕ} 0 1 = cc in absurd (omega arith)

mutual
  pub escape_unescape : (c t : List ℕ) → unescape c ≡ some t → escape t ≡ c
  escape_unescape [] t e = let q : [] ≡ t = cc in sym (ap escape q)
  escape_unescape (b ∷ bs) t e = un_plain b bs t (λ u. escape_unescape bs u) (λ u. escape_paired bs u) e

  escape_paired : (c t : List ℕ) → paired c ≡ some t → escape t ≡ 92 ∷ c
  escape_paired [] t e = let z : ◌≡◌ {A = ℕ} 0 1 = cc in absurd (omega arith)
  escape_paired (b ∷ bs) t e = un_pair b bs t (λ u. escape_unescape bs u) e
