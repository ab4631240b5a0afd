-- Tokens are parts of the bytes that they were cut from. Assumes nothing.
use Rattle.std.proofs.Common.{◌≡◌, ℕ, zero, suc, ◌+◌, Bool, true, false, cond, ◌&&◌, eqb, leb, List, [], ◌∷◌, ◌++◌, length, take, drop, sym, refl, ap, ◌∙◌, subst, arith, eqb-true}
use mathlib.Core.Option.{Option, none, some}
use Rattle.std.proofs.lemmas.List.{drop-drop}
use Rattle.values.specs.Limits.{name_byte}
use Rattle.grammar.specs.Tokens.{blank, sign_byte, printable, front, Token, word, text, same, sign, written, Found, found, nothing, behind, escaped, closed, found_text, next_is, token, placed, cut}
use Rattle.grammar.specs.Laws.{PartsOf, TokensAreParts}
use Rattle.grammar.proofs.Joins.{clash, run_length, behind_some, same_token}

-- a token is what the bytes begin with
abbrev Part : List ℕ → Token → Type 0
Part l t = take (length (written t)) l ≡ written t

-- the same of what stands before a closing quote, with the quote
abbrev Closes : List ℕ → List ℕ → Type 0
Closes l r = take (length (r ++ 34 ∷ [])) l ≡ r ++ 34 ∷ []

closes_now : (a : ℕ) (l r : List ℕ) → eqb a 34 ≡ true → [] ≡ r → Closes (a ∷ l) r
closes_now a l r q f = subst (Closes (a ∷ l)) f (ap (λ x. x ∷ []) (eqb-true a 34 q))

closes : (l r : List ℕ) → closed l ≡ some r → Closes l r
closes [] r e = clash (cc)
closes (a ∷ []) r e = go (eqb a 34) refl e
  where
    go : (t : Bool) → eqb a 34 ≡ t → cond t (some []) none ≡ some r → Closes (a ∷ []) r
    go true q e = closes_now a [] r q (cc)
    go false q e = clash (cc)
closes (a ∷ b ∷ l) r e = go (eqb a 34) refl e (closes l) (closes (b ∷ l))
  where
    escape : (t : Bool) → cond t (behind (a ∷ b ∷ []) (closed l)) none ≡ some r → ((r : List ℕ) → closed l ≡ some r → Closes l r) → Closes (a ∷ b ∷ l) r
    escape true e ih =
        let v = behind_some (a ∷ b ∷ []) (closed l) r e in
        subst (Closes (a ∷ b ∷ l)) v.2 (ap (λ x. a ∷ b ∷ x) (ih v.0 v.1))
    escape false e ih = clash (cc)

    plain : (t : Bool) → cond t (behind (a ∷ []) (closed (b ∷ l))) none ≡ some r → ((r : List ℕ) → closed (b ∷ l) ≡ some r → Closes (b ∷ l) r) → Closes (a ∷ b ∷ l) r
    plain true e ih =
        let v = behind_some (a ∷ []) (closed (b ∷ l)) r e in
        subst (Closes (a ∷ b ∷ l)) v.2 (ap (λ x. a ∷ x) (ih v.0 v.1))
    plain false e ih = clash (cc)

    two : (t : Bool) → cond t (cond (escaped b) (behind (a ∷ b ∷ []) (closed l)) none) (cond (printable a) (behind (a ∷ []) (closed (b ∷ l))) none) ≡ some r
        → ((r : List ℕ) → closed l ≡ some r → Closes l r) → ((r : List ℕ) → closed (b ∷ l) ≡ some r → Closes (b ∷ l) r) → Closes (a ∷ b ∷ l) r
    two true e ih ih₁ = escape (escaped b) e ih
    two false e ih ih₁ = plain (printable a) e ih₁

    go : (t : Bool) → eqb a 34 ≡ t → cond t (some []) (cond (eqb a 92) (cond (escaped b) (behind (a ∷ b ∷ []) (closed l)) none) (cond (printable a) (behind (a ∷ []) (closed (b ∷ l))) none)) ≡ some r
        → ((r : List ℕ) → closed l ≡ some r → Closes l r) → ((r : List ℕ) → closed (b ∷ l) ≡ some r → Closes (b ∷ l) r) → Closes (a ∷ b ∷ l) r
    go true q e ih ih₁ = closes_now a (b ∷ l) r q (cc)
    go false q e ih ih₁ = two (eqb a 92) e ih ih₁

two_equals : (b : ℕ) (l : List ℕ) (x y : Bool) → eqb b 61 ≡ x → next_is 61 l ≡ y → (x && y) ≡ true → Part (b ∷ l) same
two_equals b [] x true e f g = clash (cc)
two_equals b [] true false e f g = clash (cc)
two_equals b [] false false e f g = clash (cc)
two_equals b (a ∷ l) true true e f g = ap (λ b. b ∷ a ∷ []) (eqb-true b 61 e) ∙ ap (λ a. 61 ∷ a ∷ []) (eqb-true a 61 f)
two_equals b (a ∷ l) true false e f g = clash (cc)
two_equals b (a ∷ l) false y e f g = clash (cc)

token_part : (b : ℕ) (l : List ℕ) (t : Token) (n : ℕ) → token b l ≡ found t n → Part (b ∷ l) t
token_part b l t n h = go (name_byte b) h
  where
    names : (x : Bool) → cond x (found (word (b ∷ take (front name_byte l) l)) (front name_byte l)) nothing ≡ found t n → Part (b ∷ l) t
    names true g =
        subst (Part (b ∷ l)) (same_token t (word (b ∷ take (front name_byte l) l)) n (front name_byte l) g) (ap (λ m. b ∷ take m l) (run_length name_byte l))
    names false g = clash (cc)

    texts : (o : Option (List ℕ)) → eqb b 34 ≡ true → closed l ≡ o → found_text o ≡ found t n → Part (b ∷ l) t
    texts none q f g = clash (cc)
    texts (some r) q f g = subst (Part (b ∷ l)) (same_token t (text r) n (suc (length r)) g) (ap (λ b. b ∷ take (length (r ++ 34 ∷ [])) l) (eqb-true b 34 q) ∙ ap (λ x. 34 ∷ x) (closes l r f))

    signs : (x : Bool) → cond x (found (sign b) 0) nothing ≡ found t n → Part (b ∷ l) t
    signs true g = subst (Part (b ∷ l)) (same_token t (sign b) n 0 g) refl
    signs false g = clash (cc)

    sames : (x : Bool) → (eqb b 61 && next_is 61 l) ≡ x → cond x (found same 1) (cond (sign_byte b) (found (sign b) 0) nothing) ≡ found t n → Part (b ∷ l) t
    sames true e g = subst (Part (b ∷ l)) (same_token t same n 1 g) (two_equals b l (eqb b 61) (next_is 61 l) refl refl e)
    sames false e g = signs (sign_byte b) g

    quotes : (x : Bool) → eqb b 34 ≡ x → cond x (found_text (closed l)) (cond (eqb b 61 && next_is 61 l) (found same 1) (cond (sign_byte b) (found (sign b) 0) nothing)) ≡ found t n → Part (b ∷ l) t
    quotes true q g = texts (closed l) q refl g
    quotes false q g = sames (eqb b 61 && next_is 61 l) refl g

    go : (x : Bool) → cond x (cond (leb (front name_byte l) 31) (found (word (b ∷ take (front name_byte l) l)) (front name_byte l)) nothing)
        (cond (eqb b 34) (found_text (closed l)) (cond (eqb b 61 && next_is 61 l) (found same 1) (cond (sign_byte b) (found (sign b) 0) nothing))) ≡ found t n → Part (b ∷ l) t
    go true g = names (leb (front name_byte l) 31) g
    go false g = quotes (eqb b 34) refl g

module _ (bytes : List ℕ) where
  onward : (at b : ℕ) (l : List ℕ) → drop at bytes ≡ b ∷ l → drop (suc at) bytes ≡ l
  onward at b l e = ap (λ n. drop n bytes) (let z : suc at ≡ at + 1 = omega arith in z) ∙ sym (drop-drop 1 at bytes) ∙ ap (drop 1) e

  parts : (n at : ℕ) (l : List ℕ) → drop at bytes ≡ l → at + length l ≡ length bytes → PartsOf bytes (cut n at l)
  unfolding cut
  parts n at [] e h = omega arith
  parts (suc n) at (b ∷ l) e h = parts n (suc at) l (onward at b l e) (omega arith)
  parts zero at (b ∷ l) e h = go (blank b) (token b l) refl (λ n. parts n (suc at) l (onward at b l e) (omega arith))
    where
      go : (d : Bool) (f : Found) → token b l ≡ f → ((n : ℕ) → PartsOf bytes (cut n (suc at) l)) → PartsOf bytes (cond d (cut zero (suc at) l) (placed at f (λ n. cut n (suc at) l)))
      go true f g ih = ih 0
      go false (found t n) g ih = (ap (take (length (written t))) e ∙ token_part b l t n g, ih n)
      go false nothing g ih = omega arith

pub tokens_are_parts : TokensAreParts
tokens_are_parts bytes = parts bytes 0 0 bytes refl (omega arith)
