-- A text of tokens parted by one blank is cut into these tokens. Assumes nothing.
use Rattle.std.proofs.Common.{◌≡◌, ℕ, zero, suc, ◌+◌, ◌<◌, ◌≤◌, Bool, true, false, cond, ◌&&◌, eqb, leb, List, [], ◌∷◌, ◌++◌, length, take, drop, sym, refl, ap, ◌∙◌, subst, append_assoc, arith, length-append}
use mathlib.Core.Option.{Option, none, some}
use Rattle.std.proofs.lemmas.List.{drop_at}
use Rattle.values.specs.Limits.{name_byte}
use Rattle.grammar.specs.Tokens.{blank, sign_byte, printable, front, Token, word, text, same, sign, written, Found, found, nothing, behind, escaped, closed, found_text, next_is, token, end, placed, cut, bare}
use Rattle.grammar.specs.Texts.{joined, Real, AllReal}

pub clash : {A : Type 0} → ◌≡◌ {A = ℕ} 0 1 → A
clash e = absurd (omega arith)

-- runs
module _ (p : ℕ → Bool) where
  abbrev run : List ℕ → List ℕ
  run l = take (front p l) l

  step : (b : ℕ) (l : List ℕ) → p b ≡ true → run (b ∷ l) ≡ b ∷ run l
  step b l e = ap (λ n. take n (b ∷ l)) (ap (λ t. cond t (suc (front p l)) 0) e)

  stop : (b : ℕ) (l : List ℕ) → p b ≡ false → run (b ∷ l) ≡ []
  stop b l e = ap (λ n. take n (b ∷ l)) (ap (λ t. cond t (suc (front p l)) 0) e)

  pub run_length : (l : List ℕ) → length (run l) ≡ front p l
  run_length [] = refl
  run_length (b ∷ l) = go (p b) refl (run_length l)
    where
      go : (t : Bool) → p b ≡ t → length (run l) ≡ front p l → length (run (b ∷ l)) ≡ front p (b ∷ l)
      go true e ih = ap length (step b l e) ∙ ap suc ih ∙ sym (ap (λ t. cond t (suc (front p l)) 0) e)
      go false e ih = ap length (stop b l e) ∙ sym (ap (λ t. cond t (suc (front p l)) 0) e)

  -- a run in front of what does not pass is the whole run again
  run_again : (m : List ℕ) → front p m ≡ 0 → (l : List ℕ) → front p (run l ++ m) ≡ front p l
  run_again m z [] = z
  run_again m z (b ∷ l) = go (p b) refl (run_again m z l)
    where
      go : (t : Bool) → p b ≡ t → front p (run l ++ m) ≡ front p l → front p (run (b ∷ l) ++ m) ≡ front p (b ∷ l)
      go true e ih = ap (λ r. front p (r ++ m)) (step b l e) ∙ ap (λ t. cond t (suc (front p (run l ++ m))) 0) e ∙ ap suc ih ∙ sym (ap (λ t. cond t (suc (front p l)) 0) e)
      go false e ih = ap (λ r. front p (r ++ m)) (stop b l e) ∙ z ∙ sym (ap (λ t. cond t (suc (front p l)) 0) e)

take_whole : (r m : List ℕ) → take (length r) (r ++ m) ≡ r
take_whole [] m = refl
take_whole (b ∷ r) m = ap (λ l. b ∷ l) (take_whole r m)

-- what may follow a token in a text: nothing, or a blank
data Tail : Type 0 where
  ends : Tail
  blanked : List ℕ → Tail

abbrev out : Tail → List ℕ
out ends = []
out (blanked m) = 32 ∷ m

no_name : (x : Tail) → front name_byte (out x) ≡ 0
no_name ends = refl
no_name (blanked m) = refl

no_equal : (x : Tail) (a : Bool) → (a && next_is 61 (out x)) ≡ false
no_equal ends true = refl
no_equal ends false = refl
no_equal (blanked m) true = refl
no_equal (blanked m) false = refl

-- quoted texts
closed_quote : (m : List ℕ) → closed (34 ∷ m) ≡ some []
closed_quote [] = refl
closed_quote (c ∷ m) = refl

module _ (a : ℕ) (q : eqb a 34 ≡ false) where
  closed_plain : (x : List ℕ) → 0 < length x → eqb a 92 ≡ false → printable a ≡ true → closed (a ∷ x) ≡ behind (a ∷ []) (closed x)
  closed_plain [] h e f = absurd (omega arith)
  closed_plain (c ∷ x) h e f =
      ap (λ t. cond t (some []) (cond (eqb a 92) (cond (escaped c) (behind (a ∷ c ∷ []) (closed x)) none) (cond (printable a) (behind (a ∷ []) (closed (c ∷ x))) none))) q
      ∙ ap (λ t. cond t (cond (escaped c) (behind (a ∷ c ∷ []) (closed x)) none) (cond (printable a) (behind (a ∷ []) (closed (c ∷ x))) none)) e
      ∙ ap (λ t. cond t (behind (a ∷ []) (closed (c ∷ x))) none) f

  closed_escape : (c : ℕ) (x : List ℕ) → eqb a 92 ≡ true → escaped c ≡ true → closed (a ∷ c ∷ x) ≡ behind (a ∷ c ∷ []) (closed x)
  closed_escape c x e f =
      ap (λ t. cond t (some []) (cond (eqb a 92) (cond (escaped c) (behind (a ∷ c ∷ []) (closed x)) none) (cond (printable a) (behind (a ∷ []) (closed (c ∷ x))) none))) q
      ∙ ap (λ t. cond t (cond (escaped c) (behind (a ∷ c ∷ []) (closed x)) none) (cond (printable a) (behind (a ∷ []) (closed (c ∷ x))) none)) e
      ∙ ap (λ t. cond t (behind (a ∷ c ∷ []) (closed x)) none) f

pub behind_some : (w : List ℕ) (o : Option (List ℕ)) (r : List ℕ) → behind w o ≡ some r → (v : List ℕ) × (o ≡ some v) × (w ++ v ≡ r)
behind_some w none r e = clash (cc)
behind_some w (some v) r e = (v, refl, cc)

long : (v m : List ℕ) → 0 < length (v ++ 34 ∷ m)
long [] m = omega arith
long (c ∷ v) m = omega arith

-- what stood before a closing quote stands before one again
closed_again : (l r m : List ℕ) → closed l ≡ some r → closed (r ++ 34 ∷ m) ≡ some r
closed_again [] r m e = clash (cc)
closed_again (a ∷ []) r m e = go (eqb a 34) e
  where
    go : (t : Bool) → cond t (some []) none ≡ some r → closed (r ++ 34 ∷ m) ≡ some r
    go true e = let f : [] ≡ r = cc in subst (λ r. closed (r ++ 34 ∷ m) ≡ some r) f (closed_quote m)
    go false e = clash (cc)
closed_again (a ∷ b ∷ l) r m e = go (eqb a 34) refl e (λ v. closed_again l v m) (λ v. closed_again (b ∷ l) v m)
  where
    plain : (t : Bool) → eqb a 34 ≡ false → eqb a 92 ≡ false → printable a ≡ t → cond t (behind (a ∷ []) (closed (b ∷ l))) none ≡ some r → ((v : List ℕ) → closed (b ∷ l) ≡ some v → closed (v ++ 34 ∷ m) ≡ some v) → closed (r ++ 34 ∷ m) ≡ some r
    plain true q h f e ih =
        let v = behind_some (a ∷ []) (closed (b ∷ l)) r e in
        subst (λ r. closed (r ++ 34 ∷ m) ≡ some r) v.2 (closed_plain a q (v.0 ++ 34 ∷ m) (long v.0 m) h f ∙ ap (behind (a ∷ [])) (ih v.0 v.1))
    plain false q h f e ih = clash (cc)

    escape : (t : Bool) → eqb a 34 ≡ false → eqb a 92 ≡ true → escaped b ≡ t → cond t (behind (a ∷ b ∷ []) (closed l)) none ≡ some r → ((v : List ℕ) → closed l ≡ some v → closed (v ++ 34 ∷ m) ≡ some v) → closed (r ++ 34 ∷ m) ≡ some r
    escape true q h f e ih =
        let v = behind_some (a ∷ b ∷ []) (closed l) r e in
        subst (λ r. closed (r ++ 34 ∷ m) ≡ some r) v.2 (closed_escape a q b (v.0 ++ 34 ∷ m) h f ∙ ap (behind (a ∷ b ∷ [])) (ih v.0 v.1))
    escape false q h f e ih = clash (cc)

    two : (t : Bool) → eqb a 34 ≡ false → eqb a 92 ≡ t → cond t (cond (escaped b) (behind (a ∷ b ∷ []) (closed l)) none) (cond (printable a) (behind (a ∷ []) (closed (b ∷ l))) none) ≡ some r → ((v : List ℕ) → closed l ≡ some v → closed (v ++ 34 ∷ m) ≡ some v) → ((v : List ℕ) → closed (b ∷ l) ≡ some v → closed (v ++ 34 ∷ m) ≡ some v) → closed (r ++ 34 ∷ m) ≡ some r
    two true q h e ih ih₁ = escape (escaped b) q h refl e ih
    two false q h e ih ih₁ = plain (printable a) q h refl e ih₁

    go : (t : Bool) → eqb a 34 ≡ t → cond t (some []) (cond (eqb a 92) (cond (escaped b) (behind (a ∷ b ∷ []) (closed l)) none) (cond (printable a) (behind (a ∷ []) (closed (b ∷ l))) none)) ≡ some r → ((v : List ℕ) → closed l ≡ some v → closed (v ++ 34 ∷ m) ≡ some v) → ((v : List ℕ) → closed (b ∷ l) ≡ some v → closed (v ++ 34 ∷ m) ≡ some v) → closed (r ++ 34 ∷ m) ≡ some r
    go true q e ih ih₁ = let f : [] ≡ r = cc in subst (λ r. closed (r ++ 34 ∷ m) ≡ some r) f (closed_quote m)
    go false q e ih ih₁ = two (eqb a 92) q refl e ih ih₁

-- a token is found again in front of such a tail
record Fine (t : Token) : Type 0 where
  first : ℕ
  rest : List ℕ
  is : written t ≡ first ∷ rest
  dark : blank first ≡ false
  again : (x : Tail) → token first (rest ++ out x) ≡ found t (length rest)

abbrev word_found : ℕ → List ℕ → ℕ → Found
word_found b l n = cond (leb n 31) (found (word (b ∷ take n l)) n) nothing

abbrev others : ℕ → List ℕ → Found
others b l = cond (eqb b 34) (found_text (closed l)) (cond (eqb b 61 && next_is 61 l) (found same 1) (cond (sign_byte b) (found (sign b) 0) nothing))

fine_word : (b : ℕ) (l : List ℕ) → blank b ≡ false → name_byte b ≡ true → leb (front name_byte l) 31 ≡ true → Fine (word (b ∷ take (front name_byte l) l))
fine_word b l d e f = record {
  first = b;
  rest = take (front name_byte l) l;
  is = refl;
  dark = d;
  again = λ x.
      let r = take (front name_byte l) l in
      let n : front name_byte (r ++ out x) ≡ length r = run_again name_byte (out x) (no_name x) l ∙ sym (run_length name_byte l) in
      ap (λ t. cond t (word_found b (r ++ out x) (front name_byte (r ++ out x))) (others b (r ++ out x))) e
      ∙ ap (word_found b (r ++ out x)) n
      ∙ ap (λ t. cond t (found (word (b ∷ take (length r) (r ++ out x))) (length r)) nothing) (ap (λ n. leb n 31) (run_length name_byte l) ∙ f)
      ∙ ap (λ v. found (word (b ∷ v)) (length r)) (take_whole r (out x));
}

fine_text : (l r : List ℕ) → closed l ≡ some r → Fine (text r)
fine_text l r e = record {
  first = 34;
  rest = r ++ 34 ∷ [];
  is = refl;
  dark = refl;
  again = λ x.
      ap (λ v. found_text (closed v)) (append_assoc r (34 ∷ []) (out x)) ∙ ap found_text (closed_again l r (out x) e)
      ∙ ap (found (text r)) (let n : suc (length r) ≡ length (r ++ 34 ∷ []) = omega (arith, length-append r (34 ∷ [])) in n);
}

fine_same : Fine same
fine_same = record { first = 61; rest = 61 ∷ []; is = refl; dark = refl; again = λ x. refl }

fine_sign : (b : ℕ) → blank b ≡ false → name_byte b ≡ false → eqb b 34 ≡ false → sign_byte b ≡ true → Fine (sign b)
fine_sign b d e f g = record {
  first = b;
  rest = [];
  is = refl;
  dark = d;
  again = λ x.
      ap (λ t. cond t (word_found b (out x) (front name_byte (out x))) (others b (out x))) e
      ∙ ap (λ t. cond t (found_text (closed (out x))) (cond (eqb b 61 && next_is 61 (out x)) (found same 1) (cond (sign_byte b) (found (sign b) 0) nothing))) f
      ∙ ap (λ t. cond t (found same 1) (cond (sign_byte b) (found (sign b) 0) nothing)) (no_equal x (eqb b 61))
      ∙ ap (λ t. cond t (found (sign b) 0) nothing) g;
}

pub same_token : (t u : Token) (n m : ℕ) → found u m ≡ found t n → u ≡ t
same_token t u n m e = cc

fine : (t : Token) → Real t → Fine t
fine t h = go (name_byte h.0) refl h.3
  where
    names : (x : Bool) → name_byte h.0 ≡ true → leb (front name_byte h.1) 31 ≡ x → cond x (found (word (h.0 ∷ take (front name_byte h.1) h.1)) (front name_byte h.1)) nothing ≡ found t h.2 → Fine t
    names true e f g = subst Fine (same_token t (word (h.0 ∷ take (front name_byte h.1) h.1)) h.2 (front name_byte h.1) g) (fine_word h.0 h.1 h.4 e f)
    names false e f g = clash (cc)

    texts : (o : Option (List ℕ)) → closed h.1 ≡ o → found_text o ≡ found t h.2 → Fine t
    texts none f g = clash (cc)
    texts (some r) f g = subst Fine (same_token t (text r) h.2 (suc (length r)) g) (fine_text h.1 r f)

    signs : (x : Bool) → name_byte h.0 ≡ false → eqb h.0 34 ≡ false → sign_byte h.0 ≡ x → cond x (found (sign h.0) 0) nothing ≡ found t h.2 → Fine t
    signs true e f s g = subst Fine (same_token t (sign h.0) h.2 0 g) (fine_sign h.0 h.4 e f s)
    signs false e f s g = clash (cc)

    sames : (x : Bool) → name_byte h.0 ≡ false → eqb h.0 34 ≡ false → cond x (found same 1) (cond (sign_byte h.0) (found (sign h.0) 0) nothing) ≡ found t h.2 → Fine t
    sames true e f g = subst Fine (same_token t same h.2 1 g) fine_same
    sames false e f g = signs (sign_byte h.0) e f refl g

    quotes : (x : Bool) → name_byte h.0 ≡ false → eqb h.0 34 ≡ x → cond x (found_text (closed h.1)) (cond (eqb h.0 61 && next_is 61 h.1) (found same 1) (cond (sign_byte h.0) (found (sign h.0) 0) nothing)) ≡ found t h.2 → Fine t
    quotes true e f g = texts (closed h.1) refl g
    quotes false e f g = sames (eqb h.0 61 && next_is 61 h.1) e f g

    go : (x : Bool) → name_byte h.0 ≡ x → cond x (word_found h.0 h.1 (front name_byte h.1)) (others h.0 h.1) ≡ found t h.2 → Fine t
    go true e g = names (leb (front name_byte h.1) 31) e refl g
    go false e g = quotes (eqb h.0 34) e refl g

cut_past : (n at : ℕ) (l : List ℕ) → n ≤ length l → cut n at l ≡ cut 0 (at + n) (drop n l)
unfolding cut
cut_past zero at [] h = ap end (omega arith)
cut_past zero at (b ∷ l) h = ap (λ a. cut 0 a (b ∷ l)) (omega arith)
cut_past (suc n) at [] h = absurd (omega arith)
cut_past (suc n) at (b ∷ l) h = cut_past n (suc at) l (omega arith) ∙ ap (λ a. cut 0 a (drop n l)) (omega arith)

-- a token in front of a tail is cut off
cut_token : (t : Token) (f : Fine t) (x : Tail) (at : ℕ) → bare (cut 0 at (written t ++ out x)) ≡ t ∷ bare (cut 0 (suc at + length f.rest) (out x))
unfolding cut
cut_token t f x at =
    let r = f.rest in
    ap (λ w. bare (cut 0 at (w ++ out x))) f.is
    ∙ ap (λ d. bare (cond d (cut 0 (suc at) (r ++ out x)) (placed at (token f.first (r ++ out x)) (λ n. cut n (suc at) (r ++ out x))))) f.dark
    ∙ ap (λ y. bare (placed at y (λ n. cut n (suc at) (r ++ out x)))) (f.again x)
    ∙ ap (λ c. t ∷ bare c) (cut_past (length r) (suc at) (r ++ out x) (omega (arith, length-append r (out x))) ∙ ap (cut 0 (suc at + length r)) (drop_at r (out x) (length r) refl))

append_none : (l : List ℕ) → l ≡ l ++ []
append_none [] = refl
append_none (b ∷ l) = ap (λ m. b ∷ m) (append_none l)

pub text_tells : (ts : List Token) (at : ℕ) → AllReal ts → bare (cut 0 at (joined ts)) ≡ ts
unfolding cut
text_tells [] at h = refl
text_tells (t ∷ []) at h = ap (λ w. bare (cut 0 at w)) (append_none (written t)) ∙ cut_token t (fine t h.0) ends at
text_tells (t ∷ u ∷ us) at h =
    let f = fine t h.0 in
    cut_token t f (blanked (joined (u ∷ us))) at ∙ ap (λ ts. t ∷ ts) (text_tells (u ∷ us) (suc (suc at + length f.rest)) h.1)

pub text_determines : (ts us : List Token) → AllReal ts → AllReal us → joined ts ≡ joined us → ts ≡ us
text_determines ts us h k e = sym (text_tells ts 0 h) ∙ ap (λ l. bare (cut 0 0 l)) e ∙ text_tells us 0 k

pub cut_real : (n at : ℕ) (l : List ℕ) → AllReal (bare (cut n at l))
unfolding cut
cut_real n at [] = tt
cut_real (suc n) at (b ∷ l) = cut_real n (suc at) l
cut_real zero at (b ∷ l) = go (blank b) (token b l) refl refl (cut_real zero (suc at) l) (λ n. cut_real n (suc at) l)
  where
    go : (d : Bool) (f : Found) → blank b ≡ d → token b l ≡ f → AllReal (bare (cut zero (suc at) l)) → ((n : ℕ) → AllReal (bare (cut n (suc at) l))) → AllReal (bare (cond d (cut zero (suc at) l) (placed at f (λ n. cut n (suc at) l))))
    go true f e g ih ihs = ih
    go false (found t n) e g ih ihs = ((b, l, n, g, e), ihs n)
    go false nothing e g ih ihs = tt
