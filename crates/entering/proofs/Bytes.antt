-- Reading from the front: names, prefixes, contents. Assumes nothing.
use Rattle.std.proofs.Common.{◌≡◌, ℕ, suc, ◌+◌, ◌<◌, Bool, true, false, cond, not, eqb, List, [], ◌∷◌, ◌++◌, length, drop, Decides, sym, refl, ap, ◌∙◌, arith, take}
use Rattle.std.proofs.lemmas.Bool.{and_parts}
use mathlib.Core.Option.{Option, none, some}
use Rattle.std.proofs.lemmas.List.{length-append}
use Rattle.std.specs.List.{prefix_len}
use Rattle.values.specs.Values.{mapped}
use Rattle.values.specs.Limits.{name_byte, name_bytes}
use Rattle.trees.specs.Cuts.{free}
use Rattle.trees.specs.Files.{escape, prefixed}
use Rattle.trees.proofs.Splits.{no}
use Rattle.trees.proofs.Spellings.{never}
use Rattle.entering.specs.Levels.{front_name, GoesOn}

-- the name bytes in front
front_stops : (b : ℕ) (bs : List ℕ) → name_byte b ≡ false → front_name (b ∷ bs) ≡ []
front_stops b bs e = ap (λ x. cond x (b ∷ front_name bs) []) e

front_goes_on : (b : ℕ) (bs : List ℕ) → name_byte b ≡ true → front_name (b ∷ bs) ≡ b ∷ front_name bs
front_goes_on b bs e = ap (λ x. cond x (b ∷ front_name bs) []) e

pub front_is : (n : List ℕ) (z : ℕ) (r : List ℕ) → name_bytes n ≡ true → name_byte z ≡ false → front_name (n ++ z ∷ r) ≡ n
front_is [] z r e f = front_stops z r f
front_is (b ∷ n) z r e f =
    let e2 = and_parts (name_byte b) (name_bytes n) e in
    front_goes_on b (n ++ z ∷ r) e2.0 ∙ ap (λ l. b ∷ l) (front_is n z r e2.1 f)

-- the library's word for them
taken : (b : ℕ) (bs : List ℕ) (t : Bool) → name_byte b ≡ t → take (prefix_len name_byte bs) bs ≡ front_name bs → take (prefix_len name_byte (b ∷ bs)) (b ∷ bs) ≡ front_name (b ∷ bs)
taken b bs true e h =
    let n = prefix_len name_byte bs in
    let more : 1 + n ≡ suc n = omega arith in
    ap (λ t. take (cond t (1 + n) 0) (b ∷ bs)) e ∙ ap (λ k. take k (b ∷ bs)) more ∙ ap (λ l. b ∷ l) h ∙ sym (front_goes_on b bs e)
taken b bs false e h = ap (λ t. take (cond t (1 + prefix_len name_byte bs) 0) (b ∷ bs)) e ∙ sym (front_stops b bs e)

pub front_taken : (bs : List ℕ) → take (prefix_len name_byte bs) bs ≡ front_name bs
front_taken [] = refl
front_taken (b ∷ bs) = taken b bs (name_byte b) refl (front_taken bs)

-- bytes that are there and begin with a prefix
pub goes_on_decides : (p s : List ℕ) (r : Bool) → 0 < length s → (r ≡ true → s ≡ p ++ drop (length p) s) × ((rest : List ℕ) → s ≡ p ++ rest → r ≡ true) → Decides r (GoesOn p s)
goes_on_decides p s r h d =
    (λ e. record { begins = record { rest = drop (length p) s; is = d.0 e }; some_left = h }, λ g. d.1 g.begins.rest g.begins.is)

-- a text that is written byte by byte
pub some_room : (w : List ℕ) (b : ℕ) (o : Option (List ℕ)) (s : List ℕ) → mapped (λ t. w ++ t) (prefixed b o) ≡ some s → length w < length s
some_room w b none s e = never e
some_room w b (some t) s e =
    let is : w ++ b ∷ t ≡ s = cc in
    let long = sym (ap length is) ∙ length-append w (b ∷ t) in
    omega arith

pub not_wrong : {P : Type 0} (w s : List ℕ) (o whole : Option (List ℕ)) → o ≡ none → mapped (λ t. w ++ t) o ≡ whole → whole ≡ some s → P
not_wrong w s o whole e k f = never (ap (mapped (λ t. w ++ t)) (sym e) ∙ k ∙ f)

-- without escapes the bytes of a content are its text
pub plain_text : (s : List ℕ) → free 92 (escape s) ≡ true → escape s ≡ s
plain_text [] f = refl
plain_text (b ∷ bs) f = go (eqb b 10) (eqb b 9) (eqb b 92) refl f (plain_text bs)
  where
    go : (x y w : Bool) → eqb b 92 ≡ w → free 92 (cond x (92 ∷ 110 ∷ escape bs) (cond y (92 ∷ 116 ∷ escape bs) (cond w (92 ∷ 92 ∷ escape bs) (b ∷ escape bs)))) ≡ true → (free 92 (escape bs) ≡ true → escape bs ≡ bs) → cond x (92 ∷ 110 ∷ escape bs) (cond y (92 ∷ 116 ∷ escape bs) (cond w (92 ∷ 92 ∷ escape bs) (b ∷ escape bs))) ≡ b ∷ bs
    go true y w e f h = no (sym (and_parts (not (eqb 92 92)) (free 92 (110 ∷ escape bs)) f).0)
    go false true w e f h = no (sym (and_parts (not (eqb 92 92)) (free 92 (116 ∷ escape bs)) f).0)
    go false false true e f h = no (sym (and_parts (not (eqb 92 92)) (free 92 (92 ∷ escape bs)) f).0)
    go false false false e f h = ap (λ l. b ∷ l) (h (and_parts (not (eqb b 92)) (free 92 (escape bs)) f).1)
