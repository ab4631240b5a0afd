-- What stands at the end of a line. Assumes nothing.
use Rattle.std.proofs.Common.{◌≡◌, ℕ, Bool, true, false, not, ◌&&◌, eqb, List, [], ◌∷◌, ◌++◌, get_or, Some, None, Option as Answer, Result, sym, refl, ap, ◌∙◌, subst, append-nil, arith, Bor}
use Rattle.std.proofs.lemmas.Bool.{and_parts, eqb-false}
use mathlib.Core.Option.{some}
use Rattle.std.proofs.lemmas.Bool.Decides.{nat_tests}
use Rattle.values.specs.Values.{text, truth, nth}
use Rattle.values.specs.Table.{Table}
use Rattle.trees.specs.Cuts.{free, behind}
use Rattle.trees.specs.Lines.{Leaf, text_leaf, truth_leaf, empty_leaf, leaf_value}
use Rattle.trees.specs.Files.{escape, unescape, plain}
use Rattle.trees.proofs.Splits.{no, free_escape, unescape_escape}
use Rattle.entering.specs.Entries.{parts, enter_all}
use Rattle.entering.specs.Levels.{leaf_bytes}
use Rattle.entering.specs.Steps.{EntersEach}
use Rattle.entering.specs.declared.answers.Full.{Full}
use Rattle.entering.proofs.Growing.{truth_entered}

clash : {P : Type 0} {a b : ℕ} → eqb a b ≡ false → a ≡ b → P
clash e f = absurd (eqb-false _ _ e f)

-- the text of a content that was written out
pub text_is : (l s bytes : List ℕ) → some l ≡ unescape bytes → bytes ≡ escape s → l ≡ s
text_is l s bytes e f = let g : some l ≡ some s = e ∙ ap unescape f ∙ unescape_escape s in cc

pub same_text : (l s : List ℕ) (T : Table) (r : Result ℕ Full) (T' : Table) → l ≡ s → EntersEach (text l ∷ []) (text l) T r T' → EntersEach (text s ∷ []) (text s) T r T'
same_text l s T r T' e h = subst (λ t. EntersEach (text t ∷ []) (text t) T r T') e h

-- a leaf by its kind
pub truth_enters : (c : Leaf) (bytes : List ℕ) → bytes ≡ leaf_bytes c → get_or bytes 0 0 ≡ 98 → (T : Table) (i : ℕ) → nth T i ≡ some (truth (eqb (get_or bytes 2 0) 84)) → (enter_all (parts (leaf_value c)) T ≡ some T) × (nth T i ≡ some (leaf_value c))
truth_enters (text_leaf s) bytes e k T i h = clash {a = 116} {b = 98} refl (sym (ap (λ l. get_or l 0 0) e) ∙ k)
truth_enters (truth_leaf true) bytes e k T i h = let f = h ∙ ap (λ l. some (truth (eqb (get_or l 2 0) 84))) e in (truth_entered true T i f, f)
truth_enters (truth_leaf false) bytes e k T i h = let f = h ∙ ap (λ l. some (truth (eqb (get_or l 2 0) 84))) e in (truth_entered false T i f, f)
truth_enters empty_leaf bytes e k T i h = clash {a = 101} {b = 98} refl (sym (ap (λ l. get_or l 0 0) e) ∙ k)

-- a leaf holds no line feed
plain_feed : (b : ℕ) → plain b ≡ true → eqb b 10 ≡ false
plain_feed b e = grind (arith, nat_tests)

leaf_free : (c : Leaf) → free 10 (leaf_bytes c) ≡ true
leaf_free (text_leaf s) = free_escape 10 refl refl refl plain_feed s
leaf_free (truth_leaf true) = refl
leaf_free (truth_leaf false) = refl
leaf_free empty_leaf = refl

eqb_self : (a : ℕ) → eqb a a ≡ true
eqb_self a = grind (arith, nat_tests)

not_free : (z : ℕ) (p r : List ℕ) → free z (p ++ z ∷ r) ≡ false
not_free z [] r = ap (λ b. not b && free z r) (eqb_self z)
not_free z (b ∷ p) r = go (not (eqb b z)) (not_free z p r)
  where
    go : (x : Bool) → free z (p ++ z ∷ r) ≡ false → (x && free z (p ++ z ∷ r)) ≡ false
    go true h = h
    go false h = refl

same_cut : (z : ℕ) (p q r s : List ℕ) → free z p ≡ true → free z q ≡ true → p ++ z ∷ r ≡ q ++ z ∷ s → (p ≡ q) × (r ≡ s)
same_cut z [] [] r s e f g = (refl, cc)
same_cut z [] (b ∷ q) r s e f g =
    let k : z ≡ b = cc in
    no (sym (and_parts (not (eqb b z)) (free z q) f).0 ∙ ap (λ x. not (eqb x z)) (sym k) ∙ ap not (eqb_self z))
same_cut z (b ∷ p) [] r s e f g =
    let k : b ≡ z = cc in
    no (sym (and_parts (not (eqb b z)) (free z p) e).0 ∙ ap (λ x. not (eqb x z)) k ∙ ap not (eqb_self z))
same_cut z (b ∷ p) (d ∷ q) r s e f g =
    let k : b ≡ d = cc in
    let t : p ++ z ∷ r ≡ q ++ z ∷ s = cc in
    let h = same_cut z p q r s (and_parts (not (eqb b z)) (free z p) e).1 (and_parts (not (eqb d z)) (free z q) f).1 t in
    ((λ j. k j ∷ h.0 j), h.1)

-- the first line feed stands behind the leaf
pub some_feed : {P : Type 0} (c : Leaf) (bytes after first : List ℕ) (rest : Answer (Bor (List ℕ))) → bytes ≡ leaf_bytes c ++ 10 ∷ after → bytes ≡ first ++ behind 10 rest → free 10 first ≡ true → rest ≡ None → P
some_feed c bytes after first rest e f g k =
    let whole : leaf_bytes c ++ 10 ∷ after ≡ first = sym e ∙ f ∙ ap (λ o. first ++ behind 10 o) k ∙ append-nil first in
    no (sym g ∙ ap (free 10) (sym whole) ∙ not_free 10 (leaf_bytes c) after)

pub at_feed : (c : Leaf) (bytes after first : List ℕ) (rest : Answer (Bor (List ℕ))) (s : Bor (List ℕ)) → bytes ≡ leaf_bytes c ++ 10 ∷ after → bytes ≡ first ++ behind 10 rest → free 10 first ≡ true → rest ≡ Some s → (first ≡ leaf_bytes c) × (s.now ≡ after)
at_feed c bytes after first rest s e f g k = same_cut 10 first (leaf_bytes c) s.now after g (leaf_free c) (sym (ap (λ o. first ++ behind 10 o) k) ∙ sym f ∙ e)
