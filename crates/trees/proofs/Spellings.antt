-- Lines as bytes, and files. Assumes nothing.
use Rattle.std.proofs.Common.{◌≡◌, ℕ, ◌+◌, ◌≤◌, Bool, true, false, cond, not, ◌&&◌, eqb, leb, List, [], ◌∷◌, ◌++◌, map, length, sym, refl, ap, ◌∙◌, arith}
use Rattle.std.proofs.lemmas.Bool.{and_parts, and_from}
use mathlib.Core.Option.{Option, none, some}
use Rattle.std.proofs.lemmas.Bool.Decides.{nat_tests}
use Rattle.values.specs.Values.{Name, Value, text, truth, binding, Members, nil, cons, same_name, mapped}
use Rattle.values.specs.Limits.{dots, all_ordered, name_byte, name_bytes, fit, named, all_named}
use Rattle.trees.specs.Lines.{Leaf, text_leaf, truth_leaf, empty_leaf, Line, line, below, lines, some_lines, lines_of, Read, ok, bad, after, step, fill, within}
use Rattle.trees.specs.Cuts.{free}
use Rattle.trees.specs.Files.{split, joined, plain, unescape, all_fit, kind_mark, content, true_word, false_word, line_bytes, when, leaf_of, line_from, line_of, done, refused, on_step, on_line, read_from, read_tree, written, listing}
use Rattle.values.proofs.Sameness.{name_test}
use Rattle.trees.proofs.Listed.{fill_lines}
use Rattle.trees.proofs.Made.{read_back}
use Rattle.trees.proofs.Splits.{no, all_free, split_front, split_joined, joined_split, free_name, free_joined, free_escape, unescape_escape, escape_unescape}

pub never : {P A : Type 0} {a : A} → none ≡ some a → P
never e = let z : ◌≡◌ {A = ℕ} 0 1 = cc in absurd (omega arith)

pub when_some : {A : Type 0} (b : Bool) (o : Option A) (a : A) → when b o ≡ some a → (b ≡ true) × (o ≡ some a)
when_some true o a e = (refl, e)
when_some false o a e = never e

pub mapped_some : {A B : Type 0} (f : A → B) (o : Option A) (b : B) → mapped f o ≡ some b → (a : A) × (o ≡ some a) × (f a ≡ b)
mapped_some f none b e = never e
mapped_some f (some a) b e = (a, refl, cc)

-- a leaf and its two fields
pub leaf_is : (k c : List ℕ) (x : Leaf) → leaf_of k c ≡ some x → (kind_mark x ≡ k) × (content x ≡ c)
leaf_is k c x = go (same_name k (116 ∷ [])) (same_name k (98 ∷ [])) refl refl
  where
    truths : (a : Bool) → same_name c true_word ≡ a → same_name k (98 ∷ []) ≡ true → cond a (some (truth_leaf true)) (when (same_name c false_word) (some (truth_leaf false))) ≡ some x → (kind_mark x ≡ k) × (content x ≡ c)
    truths true e f q = let w : truth_leaf true ≡ x = cc in (sym (ap kind_mark w) ∙ sym ((name_test k (98 ∷ [])).0 f), sym (ap content w) ∙ sym ((name_test c true_word).0 e))
    truths false e f q =
        let s = when_some (same_name c false_word) (some (truth_leaf false)) x q in
        let w : truth_leaf false ≡ x = let r = s.1 in cc in (sym (ap kind_mark w) ∙ sym ((name_test k (98 ∷ [])).0 f), sym (ap content w) ∙ sym ((name_test c false_word).0 s.0))

    go : (a b : Bool) → same_name k (116 ∷ []) ≡ a → same_name k (98 ∷ []) ≡ b → cond a (mapped text_leaf (unescape c)) (cond b (cond (same_name c true_word) (some (truth_leaf true)) (when (same_name c false_word) (some (truth_leaf false)))) (when (same_name k (101 ∷ [])) (when (same_name c []) (some empty_leaf)))) ≡ some x → (kind_mark x ≡ k) × (content x ≡ c)
    go true b e f q =
        let s = mapped_some text_leaf (unescape c) x q in
        (sym (ap kind_mark s.2) ∙ sym ((name_test k (116 ∷ [])).0 e), sym (ap content s.2) ∙ escape_unescape c s.0 s.1)
    go false true e f q = truths (same_name c true_word) refl f q
    go false false e f q =
        let s = when_some (same_name k (101 ∷ [])) (when (same_name c []) (some empty_leaf)) x q in
        let r = when_some (same_name c []) (some empty_leaf) x s.1 in
        let w : empty_leaf ≡ x = let y = r.1 in cc in
        (sym (ap kind_mark w) ∙ sym ((name_test k (101 ∷ [])).0 s.0), sym (ap content w) ∙ sym ((name_test c []).0 r.0))

leaf_back : (x : Leaf) → leaf_of (kind_mark x) (content x) ≡ some x
leaf_back (text_leaf s) = ap (mapped text_leaf) (unescape_escape s)
leaf_back (truth_leaf true) = refl
leaf_back (truth_leaf false) = refl
leaf_back empty_leaf = refl

fields_are : (ps : List (List ℕ)) (x : Line) → line_from ps ≡ some x → line_bytes x ≡ joined 9 ps
fields_are [] x e = never e
fields_are (p ∷ []) x e = never e
fields_are (p ∷ k ∷ []) x e = never e
fields_are (p ∷ k ∷ c ∷ d ∷ ds) x e = never e
fields_are (p ∷ k ∷ c ∷ []) x e =
    let s = when_some (all_fit (split 47 p)) (mapped (line (split 47 p)) (leaf_of k c)) x e in
    let m = mapped_some (line (split 47 p)) (leaf_of k c) x s.1 in
    let l = leaf_is k c m.0 m.1 in
    sym (ap line_bytes m.2) ∙ (λ j. joined 9 (joined_split 47 p j ∷ l.0 j ∷ l.1 j ∷ []))

pub line_is : (bs : List ℕ) (x : Line) → line_of bs ≡ some x → line_bytes x ≡ bs
line_is bs x e = fields_are (split 9 bs) x e ∙ joined_split 9 bs

-- the bytes of an accepted file are its lines, written
pub file_is : (at : ℕ) (ms : Members) (ps : List (List ℕ)) (ws : Members) → read_from at ms ps ≡ done ws → (ls : List Line) × (fill ms ls ≡ ok ws) × (written ls ≡ joined 10 ps)
file_is at ms [] ws e = let z : ◌≡◌ {A = ℕ} 0 1 = cc in absurd (omega arith)
file_is at ms ([] ∷ []) ws e = let w : ms ≡ ws = cc in ([], ap ok w, refl)
file_is at ms ((b ∷ bs) ∷ []) ws e = let z : ◌≡◌ {A = ℕ} 0 1 = cc in absurd (omega arith)
file_is at ms (l ∷ m ∷ ps) ws e = go (line_of l) refl e (λ us. file_is (at + length l + 1) us (m ∷ ps) ws)
  where
    next : (x : Line) → line_bytes x ≡ l → (r : Read) → step x ms ≡ r → on_step at r (λ us. read_from (at + length l + 1) us (m ∷ ps)) ≡ done ws → ((us : Members) → read_from (at + length l + 1) us (m ∷ ps) ≡ done ws → (ls : List Line) × (fill us ls ≡ ok ws) × (written ls ≡ joined 10 (m ∷ ps))) → (ls : List Line) × (fill ms ls ≡ ok ws) × (written ls ≡ l ++ 10 ∷ joined 10 (m ∷ ps))
    next x s (bad y) q e h = let z : ◌≡◌ {A = ℕ} 0 1 = cc in absurd (omega arith)
    next x s (ok us) q e h =
        let r = h us e in
        (x ∷ r.0, ap (λ y. after y (λ vs. fill vs r.0)) q ∙ r.1, (λ j. s j ++ 10 ∷ r.2 j))

    go : (o : Option Line) → line_of l ≡ o → on_line at o ms (λ us. read_from (at + length l + 1) us (m ∷ ps)) ≡ done ws → ((us : Members) → read_from (at + length l + 1) us (m ∷ ps) ≡ done ws → (ls : List Line) × (fill us ls ≡ ok ws) × (written ls ≡ joined 10 (m ∷ ps))) → (ls : List Line) × (fill ms ls ≡ ok ws) × (written ls ≡ l ++ 10 ∷ joined 10 (m ∷ ps))
    go none q e h = let z : ◌≡◌ {A = ℕ} 0 1 = cc in absurd (omega arith)
    go (some x) q e h = next x (line_is l x q) (step x ms) refl e h

pub accepted : (bs : List ℕ) (ms : Members) → read_tree bs ≡ done ms → listing (binding ms) ≡ bs
accepted bs ms = go (leb (length bs) 32768)
  where
    go : (b : Bool) → cond b (read_from 0 nil (split 10 bs)) (refused 1 0) ≡ done ms → written (lines_of ms) ≡ bs
    go true e =
        let r = file_is 0 nil (split 10 bs) ms e in
        ap written (fill_lines nil r.0 ms r.1) ∙ r.2 ∙ joined_split 10 bs
    go false e = let z : ◌≡◌ {A = ℕ} 0 1 = cc in absurd (omega arith)

fit_bytes : (n : Name) → fit n ≡ true → name_bytes n ≡ true
fit_bytes n e =
    let a = and_parts (leb 1 (length n)) (leb (length n) 32 && (not (dots n) && name_bytes n)) e in
    let b = and_parts (leb (length n) 32) (not (dots n) && name_bytes n) a.1 in
    (and_parts (not (dots n)) (name_bytes n) b.1).1

-- fit names hold no separators
fit_free : (z : ℕ) → name_byte z ≡ false → (p : List Name) → all_fit p ≡ true → all_free z p ≡ true
fit_free z f [] e = refl
fit_free z f (n ∷ p) e =
    let a = and_parts (fit n) (all_fit p) e in
    and_from (free z n) (all_free z p) (free_name z f n (fit_bytes n a.0)) (fit_free z f p a.1)

free_content : (z : ℕ) → eqb 92 z ≡ false → eqb 110 z ≡ false → eqb 116 z ≡ false → ((b : ℕ) → plain b ≡ true → eqb b z ≡ false) → free z true_word ≡ true → free z false_word ≡ true → (c : Leaf) → free z (content c) ≡ true
free_content z s n t p y w (text_leaf bs) = free_escape z s n t p bs
free_content z s n t p y w (truth_leaf true) = y
free_content z s n t p y w (truth_leaf false) = w
free_content z s n t p y w empty_leaf = refl

plain_tab : (b : ℕ) → plain b ≡ true → eqb b 9 ≡ false
plain_tab b e = grind (arith, nat_tests)

plain_feed : (b : ℕ) → plain b ≡ true → eqb b 10 ≡ false
plain_feed b e = grind (arith, nat_tests)

tab_kind : (c : Leaf) → free 9 (kind_mark c) ≡ true
tab_kind (text_leaf s) = refl
tab_kind (truth_leaf b) = refl
tab_kind empty_leaf = refl

feed_kind : (c : Leaf) → free 10 (kind_mark c) ≡ true
feed_kind (text_leaf s) = refl
feed_kind (truth_leaf b) = refl
feed_kind empty_leaf = refl

pub line_back : (n : Name) (p : List Name) (c : Leaf) → all_fit (n ∷ p) ≡ true → line_of (line_bytes (line (n ∷ p) c)) ≡ some (line (n ∷ p) c)
line_back n p c f =
    let tabs : all_free 9 (joined 47 (n ∷ p) ∷ kind_mark c ∷ content c ∷ []) ≡ true =
    and_from (free 9 (joined 47 (n ∷ p))) (free 9 (kind_mark c) && (free 9 (content c) && true)) (free_joined 9 47 (n ∷ p) refl (fit_free 9 refl (n ∷ p) f))
    (and_from (free 9 (kind_mark c)) (free 9 (content c) && true) (tab_kind c) (and_from (free 9 (content c)) true (free_content 9 refl refl refl plain_tab refl refl c) refl)) in
    let path : split 47 (joined 47 (n ∷ p)) ≡ n ∷ p = split_joined 47 n p (fit_free 47 refl (n ∷ p) f) in
    ap line_from (split_joined 9 (joined 47 (n ∷ p)) (kind_mark c ∷ content c ∷ []) tabs)
    ∙ (λ j. when (all_fit (path j)) (mapped (line (path j)) (leaf_back c j)))
    ∙ ap (λ b. when b (some (line (n ∷ p) c))) f

abbrev good : Line → Bool
good (line [] c) = false
good (line (n ∷ p) c) = all_fit (n ∷ p)

abbrev all_good : List Line → Bool
all_good [] = true
all_good (l ∷ ls) = good l && all_good ls

feed_line : (l : Line) → good l ≡ true → free 10 (line_bytes l) ≡ true
feed_line (line [] c) f = no (sym f)
feed_line (line (n ∷ p) c) f =
    free_joined 10 9 (joined 47 (n ∷ p) ∷ kind_mark c ∷ content c ∷ []) refl
    (and_from (free 10 (joined 47 (n ∷ p))) (free 10 (kind_mark c) && (free 10 (content c) && true)) (free_joined 10 47 (n ∷ p) refl (fit_free 10 refl (n ∷ p) f))
    (and_from (free 10 (kind_mark c)) (free 10 (content c) && true) (feed_kind c) (and_from (free 10 (content c)) true (free_content 10 refl refl refl plain_feed refl refl c) refl)))

split_written : (ls : List Line) → all_good ls ≡ true → split 10 (written ls) ≡ map line_bytes ls ++ [] ∷ []
split_written [] g = refl
split_written (l ∷ ls) g =
    let g2 = and_parts (good l) (all_good ls) g in
    split_front 10 (line_bytes l) (written ls) (feed_line l g2.0) ∙ ap (λ r. line_bytes l ∷ r) (split_written ls g2.1)

good_back : (l : Line) → good l ≡ true → line_of (line_bytes l) ≡ some l
good_back (line [] c) f = no (sym f)
good_back (line (n ∷ p) c) f = line_back n p c f

step_fill : (l : Line) (ms : Members) (ls : List Line) (ws : Members) → fill ms (l ∷ ls) ≡ ok ws → (us : Members) × (step l ms ≡ ok us) × (fill us ls ≡ ok ws)
step_fill l ms ls ws e = go (step l ms) refl e
  where
    go : (r : Read) → step l ms ≡ r → after r (λ us. fill us ls) ≡ ok ws → (us : Members) × (step l ms ≡ ok us) × (fill us ls ≡ ok ws)
    go (ok us) q e = (us, q, e)
    go (bad x) q e = let z : ◌≡◌ {A = ℕ} 0 1 = cc in absurd (omega arith)

pub file_back : (at : ℕ) (ms : Members) (ls : List Line) (ws : Members) → all_good ls ≡ true → fill ms ls ≡ ok ws → read_from at ms (map line_bytes ls ++ [] ∷ []) ≡ done ws
file_back at ms [] ws g e = let w : ms ≡ ws = cc in ap done w
file_back at ms (l ∷ []) ws g e =
    let g2 = and_parts (good l) true g in
    let s = step_fill l ms [] ws e in
    ap (λ o. on_line at o ms (λ us. read_from (at + length (line_bytes l) + 1) us ([] ∷ []))) (good_back l g2.0)
    ∙ ap (λ r. on_step at r (λ us. done us)) s.1 ∙ file_back (at + length (line_bytes l) + 1) s.0 [] ws refl s.2
file_back at ms (l ∷ k ∷ ls) ws g e =
    let g2 = and_parts (good l) (all_good (k ∷ ls)) g in
    let s = step_fill l ms (k ∷ ls) ws e in
    ap (λ o. on_line at o ms (λ us. read_from (at + length (line_bytes l) + 1) us (line_bytes k ∷ (map line_bytes ls ++ [] ∷ [])))) (good_back l g2.0)
    ∙ ap (λ r. on_step at r (λ us. read_from (at + length (line_bytes l) + 1) us (line_bytes k ∷ (map line_bytes ls ++ [] ∷ [])))) s.1 ∙ file_back (at + length (line_bytes l) + 1) s.0 (k ∷ ls) ws g2.1 s.2

-- the lines of a value with fit names
abbrev fit_path : Line → Bool
fit_path (line p c) = all_fit p

abbrev all_paths : List Line → Bool
all_paths [] = true
all_paths (l ∷ ls) = fit_path l && all_paths ls

good_path : (l : Line) → good l ≡ true → fit_path l ≡ true
good_path (line [] c) e = refl
good_path (line (n ∷ p) c) e = e

good_paths : (ls : List Line) → all_good ls ≡ true → all_paths ls ≡ true
good_paths [] e = refl
good_paths (l ∷ ls) e = let a = and_parts (good l) (all_good ls) e in and_from (fit_path l) (all_paths ls) (good_path l a.0) (good_paths ls a.1)

below_good : (n : Name) (l : Line) → fit n ≡ true → fit_path l ≡ true → good (below n l) ≡ true
below_good n (line p c) f e = and_from (fit n) (all_fit p) f e

belows_good : (n : Name) (ls : List Line) → fit n ≡ true → all_paths ls ≡ true → all_good (map (below n) ls) ≡ true
belows_good n [] f e = refl
belows_good n (l ∷ ls) f e = let a = and_parts (fit_path l) (all_paths ls) e in and_from (good (below n l)) (all_good (map (below n) ls)) (below_good n l f a.0) (belows_good n ls f a.1)

good_both : (ls ks : List Line) → all_good ls ≡ true → all_good ks ≡ true → all_good (ls ++ ks) ≡ true
good_both [] ks e f = f
good_both (l ∷ ls) ks e f = let a = and_parts (good l) (all_good ls) e in and_from (good l) (all_good (ls ++ ks)) a.0 (good_both ls ks a.1 f)

some_paths : (ms : Members) → all_good (lines_of ms) ≡ true → all_paths (some_lines ms) ≡ true
some_paths nil e = refl
some_paths (cons n v ms) e = good_paths (lines_of (cons n v ms)) e

mutual
  paths_fit : (v : Value) → named v ≡ true → all_paths (lines v) ≡ true
  paths_fit (text s) e = refl
  paths_fit (truth b) e = refl
  paths_fit (binding ms) e = some_paths ms (lines_good ms e)

  lines_good : (ms : Members) → all_named ms ≡ true → all_good (lines_of ms) ≡ true
  lines_good nil e = refl
  lines_good (cons n v ms) e =
      let a = and_parts (fit n) (named v && all_named ms) e in
      let b = and_parts (named v) (all_named ms) a.1 in
      good_both (map (below n) (lines v)) (lines_of ms) (belows_good n (lines v) a.0 (paths_fit v b.0)) (lines_good ms b.1)

pub reads : (ms : Members) → all_ordered ms ≡ true → within ms ≡ true → all_named ms ≡ true → length (listing (binding ms)) ≤ 32768 → read_tree (listing (binding ms)) ≡ done ms
reads ms o w n l =
    let g = lines_good ms n in
    ap (λ b. cond b (read_from 0 nil (split 10 (written (lines_of ms)))) (refused 1 0)) (short (length (written (lines_of ms))) l)
    ∙ ap (read_from 0 nil) (split_written (lines_of ms) g) ∙ file_back 0 nil (lines_of ms) ms g (read_back ms o w)
  where
    short : (a : ℕ) → a ≤ 32768 → leb a 32768 ≡ true
    short a h = grind (arith, nat_tests)
