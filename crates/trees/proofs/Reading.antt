-- A line cut at its tabs. Assumes nothing.
use Rattle.std.proofs.Common.{◌≡◌, ℕ, ◌≤◌, Bool, true, false, cond, not, List, [], ◌∷◌, ◌++◌, length, Some, None, Option as Answer, Ok, Err, Result, sym, refl, ap, ◌∙◌, append-nil, arith, Bor}
use mathlib.Core.Option.{Option, none, some}
use mathlib.Core.Logic.{◌⊎◌, inl, inr}
use Rattle.std.specs.Option.{is_some}
use Rattle.std.specs.Result.{IsErr}
use Rattle.values.specs.Values.{same_name, mapped}
use Rattle.std.proofs.lemmas.Bool.{false_from_ne_true}
use Rattle.values.proofs.Sameness.{name_test}
use Rattle.trees.specs.declared.parts.Parts.{Parts}
use Rattle.trees.specs.declared.escapes.Malformed.{Malformed}
use Rattle.trees.specs.declared.lines.RawLine.{RawLine}
use Rattle.trees.specs.Raw.{read_line}
use Rattle.trees.specs.Lines.{text_leaf, truth_leaf, Line, line}
use Rattle.trees.specs.Cuts.{behind, Cuts}
use Rattle.trees.specs.Files.{split, all_fit, when, unescape, true_word, false_word, truth_of, empty_of, leaf_of, line_from, line_of}
use Rattle.trees.proofs.Splits.{no, split_some}
use Rattle.trees.proofs.Order.{parts_of}

pub no_kind : (bs : List ℕ) (a : Parts) → Cuts 9 bs a → a.rest ≡ None → none ≡ line_of bs
no_kind bs a c e = sym (ap line_from (parts_of 9 bs a None c e))

two_parts : (bs : List ℕ) (a b : Parts) (x : Bor (List ℕ)) (o : Answer (Bor (List ℕ))) → Cuts 9 bs a → a.rest ≡ Some x → Cuts 9 x.now b → b.rest ≡ o → split 9 bs ≡ a.first.now ∷ b.first.now ∷ Rattle.trees.proofs.Cutting.rest_parts 9 o
two_parts bs a b x o c e d f = parts_of 9 bs a (Some x) c e ∙ ap (λ r. a.first.now ∷ r) (parts_of 9 x.now b o d f)

pub no_content : (bs : List ℕ) (a b : Parts) (x : Bor (List ℕ)) → Cuts 9 bs a → a.rest ≡ Some x → Cuts 9 x.now b → b.rest ≡ None → none ≡ line_of bs
no_content bs a b x c e d f = sym (ap line_from (two_parts bs a b x None c e d f))

too_many : (bs : List ℕ) (a b d : Parts) (x y z : Bor (List ℕ)) → Cuts 9 bs a → a.rest ≡ Some x → Cuts 9 x.now b → b.rest ≡ Some y → Cuts 9 y.now d → d.rest ≡ Some z → line_of bs ≡ none
too_many bs a b d x y z c e f g h k =
    let s = split_some 9 z.now in
    ap line_from (two_parts bs a b x (Some y) c e f g ∙ ap (λ r. a.first.now ∷ b.first.now ∷ r) (parts_of 9 y.now d (Some z) h k ∙ ap (λ r. d.first.now ∷ r) s.2))

three_parts : (bs : List ℕ) (a b d : Parts) (x y : Bor (List ℕ)) → Cuts 9 bs a → a.rest ≡ Some x → Cuts 9 x.now b → b.rest ≡ Some y → Cuts 9 y.now d → d.rest ≡ None → line_of bs ≡ when (all_fit (split 47 a.first.now)) (mapped (line (split 47 a.first.now)) (leaf_of b.first.now y.now))
three_parts bs a b d x y c e f g h k =
    let whole : d.first.now ≡ y.now = sym (append-nil d.first.now) ∙ ap (λ o. d.first.now ++ behind 9 o) (sym k) ∙ sym h.0 in
    ap line_from (two_parts bs a b x (Some y) c e f g ∙ ap (λ r. a.first.now ∷ b.first.now ∷ r) (parts_of 9 y.now d None h k))
    ∙ ap (λ t. when (all_fit (split 47 a.first.now)) (mapped (line (split 47 a.first.now)) (leaf_of b.first.now t))) whole

-- a line of three parts at least
pub fields : (bs : List ℕ) (a b d : Parts) (x y : Bor (List ℕ)) → Cuts 9 bs a → a.rest ≡ Some x → Cuts 9 x.now b → b.rest ≡ Some y → Cuts 9 y.now d
    → line_of bs ≡ when (not (is_some d.rest)) (when (all_fit (split 47 a.first.now)) (mapped (line (split 47 a.first.now)) (leaf_of b.first.now y.now)))
fields bs a b d x y c e f g h = go d.rest refl
  where
    go : (o : Answer (Bor (List ℕ))) → d.rest ≡ o → line_of bs ≡ when (not (is_some o)) (when (all_fit (split 47 a.first.now)) (mapped (line (split 47 a.first.now)) (leaf_of b.first.now y.now)))
    go None k = three_parts bs a b d x y c e f g h k
    go (Some z) k = too_many bs a b d x y z c e f g h k

pub no_line : (more fit : Bool) (o p : Option Line) → o ≡ when (not more) (when fit p) → (more ≡ true) ⊎ (fit ≡ false) → none ≡ o
no_line more fit o p e (inl m) = sym (e ∙ ap (λ b. when (not b) (when fit p)) m)
no_line true fit o p e (inr f) = sym e
no_line false fit o p e (inr f) = sym (e ∙ ap (λ b. when b p) f)

pub one_line : (more fit : Bool) (o p : Option Line) → o ≡ when (not more) (when fit p) → false ≡ more → true ≡ fit → o ≡ p
one_line more fit o p e m f = e ∙ (λ j. when (not (sym m j)) (when (sym f j) p))

-- contents of no truth value, and of no empty binding
pub no_truth : (c : List ℕ) → (c ≡ true_word → ⊥) → (c ≡ false_word → ⊥) → none ≡ truth_of c
no_truth c t f = (λ j. cond (sym (false_from_ne_true (same_name c true_word) (λ e. t ((name_test c true_word).0 e))) j) (some (truth_leaf true)) (when (sym (false_from_ne_true (same_name c false_word) (λ e. f ((name_test c false_word).0 e))) j) (some (truth_leaf false))))

pub not_empty : (c : List ℕ) → 1 ≤ length c → none ≡ empty_of c
not_empty [] l = absurd (omega arith)
not_empty (b ∷ bs) l = refl

pub no_leaf : (k c : List ℕ) → (k ≡ 116 ∷ [] → ⊥) → (k ≡ 98 ∷ [] → ⊥) → (k ≡ 101 ∷ [] → ⊥) → none ≡ leaf_of k c
no_leaf k c t b e =
    let other : (w : List ℕ) → (k ≡ w → ⊥) → false ≡ same_name k w = λ w h. sym (false_from_ne_true (same_name k w) (λ q. h ((name_test k w).0 q))) in
    (λ j. cond (other (116 ∷ []) t j) (mapped text_leaf (unescape c)) (cond (other (98 ∷ []) b j) (truth_of c) (when (other (101 ∷ []) e j) (empty_of c))))

-- no line is read from an error
pub unread : (r : Result RawLine Malformed) → IsErr r → read_line r ≡ none
unread (Ok l) e = no (sym e)
unread (Err m) e = refl
