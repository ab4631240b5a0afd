-- How a model's bytes are cut, piece by piece. Assumes nothing.
use Rattle.std.proofs.Common.{◌≡◌, ℕ, zero, suc, ◌+◌, ◌-◌, ◌<◌, ◌≤◌, Bool, true, false, cond, List, [], ◌∷◌, length, take, drop, Some, None, Option as Answer, Ok, Err, Result, sym, refl, ap, ◌∙◌, subst, arith}
use Rattle.std.specs.List.{prefix_len, take_while}
use Rattle.std.proofs.lemmas.List.Folds.{length-prefix_len}
use Rattle.std.proofs.lemmas.List.Sums.{prefix_len-le-length}
use Rattle.std.proofs.lemmas.List.{drop-drop, take_rest, length-drop}
use Rattle.scanner.specs.declared.tokens.NoToken.{NoToken}
use Rattle.scanner.specs.declared.tokens.Token.{Token as CodeToken}
use Rattle.scanner.specs.Views.{Begins, Fronts, Sees, Gives, ahead, meaning, from}
use Rattle.scanner.specs.declared.scanner.Scanner.{Scanner}
use Rattle.grammar.specs.Tokens.{front, blank, Token, Found, found, nothing, token, end, no_token, next, placed, cut, count}

-- a run in front, in the library's words
front_prefix : (p : ℕ → Bool) (l : List ℕ) → prefix_len p l ≡ front p l
front_prefix p [] = refl
front_prefix p (b ∷ l) = go (p b) (front_prefix p l)
  where
    go : (t : Bool) → prefix_len p l ≡ front p l → cond t (1 + prefix_len p l) 0 ≡ cond t (suc (front p l)) 0
    go true ih = omega (arith, ih)
    go false ih = refl

pub run_is : (p : ℕ → Bool) (l : List ℕ) (n : ℕ) → n ≡ length (take_while p l) → (n ≡ front p l) × (n ≤ length l)
run_is p l n e =
    let run = e ∙ length-prefix_len p l ∙ front_prefix p l in
    (run, omega (arith, run, front_prefix p l, prefix_len-le-length p l))

-- bytes of a token before are passed over
pub cut_past : (n at : ℕ) (l : List ℕ) → n ≤ length l → cut n at l ≡ cut 0 (at + n) (drop n l)
unfolding cut
cut_past zero at [] h = ap end (omega arith)
cut_past zero at (b ∷ l) h = ap (λ a. cut 0 a (b ∷ l)) (omega arith)
cut_past (suc n) at [] h = absurd (omega arith)
cut_past (suc n) at (b ∷ l) h = cut_past n (suc at) l (omega arith) ∙ ap (λ a. cut 0 a (drop n l)) (omega arith)

-- and so are blanks
pub cut_blanks : (at : ℕ) (l : List ℕ) → cut 0 at l ≡ cut 0 (at + front blank l) (drop (front blank l) l)
unfolding cut
cut_blanks at [] = ap end (omega arith)
cut_blanks at (b ∷ l) = go (blank b) refl (cut_blanks (suc at) l)
  where
    go : (t : Bool) → blank b ≡ t → cut 0 (suc at) l ≡ cut 0 (suc at + front blank l) (drop (front blank l) l) → cut 0 at (b ∷ l) ≡ cut 0 (at + front blank (b ∷ l)) (drop (front blank (b ∷ l)) (b ∷ l))
    go true e ih = simp e (ih ∙ ap (λ a. cut 0 a (drop (front blank l) l)) (omega arith))
    go false e ih =
        let n : front blank (b ∷ l) ≡ 0 = ap (λ t. cond t (suc (front blank l)) 0) e in
        ap (λ a. cut 0 a (b ∷ l)) (omega arith) ∙ sym (ap (λ m. cut 0 (at + m) (drop m (b ∷ l))) n)

-- past the blanks no blank stands
pub unblank : (l : List ℕ) (b : ℕ) (r : List ℕ) → drop (front blank l) l ≡ b ∷ r → blank b ≡ false
unblank [] b r e = absurd (omega (arith, ap length e))
unblank (a ∷ l) b r e = go (blank a) refl (unblank l b r)
  where
    go : (t : Bool) → blank a ≡ t → (drop (front blank l) l ≡ b ∷ r → blank b ≡ false) → blank b ≡ false
    go true h ih = ih (simp h at e)
    go false h ih =
        let f : a ∷ l ≡ b ∷ r = simp h at e in
        let g : a ≡ b = cc in
        sym (ap blank g) ∙ h

abbrev pub past_blanks : List ℕ → ℕ → ℕ
past_blanks m at = at + front blank (drop at m)

module _ (m : List ℕ) (at : ℕ) where
  rest : drop (front blank (drop at m)) (drop at m) ≡ drop (past_blanks m at) m
  rest = drop-drop (front blank (drop at m)) at m

  onward : from m at ≡ from m (past_blanks m at)
  onward = cut_blanks at (drop at m) ∙ ap (cut 0 (past_blanks m at)) rest

  -- where a token begins
  pub cut_here : (b : ℕ) (l : List ℕ) → drop (past_blanks m at) m ≡ b ∷ l → from m at ≡ placed (past_blanks m at) (token b l) (λ n. cut n (suc (past_blanks m at)) l)
  unfolding cut
  cut_here b l e =
      let f : blank b ≡ false = unblank (drop at m) b l (rest ∙ e) in
      onward ∙ ap (cut 0 (past_blanks m at)) e ∙ ap (λ t. cond t (cut 0 (suc (past_blanks m at)) l) (placed (past_blanks m at) (token b l) (λ n. cut n (suc (past_blanks m at)) l))) f

  pub see_token : (t : Token) (n : ℕ) → Begins (drop (past_blanks m at) m) t n → (from m at ≡ next (past_blanks m at) t (from m (past_blanks m at + n))) × (0 < n) × (past_blanks m at + n ≤ length m)
  see_token t n h = go (drop (past_blanks m at) m) refl h
    where
      go : (l : List ℕ) → drop (past_blanks m at) m ≡ l → Begins l t n → (from m at ≡ next (past_blanks m at) t (from m (past_blanks m at + n))) × (0 < n) × (past_blanks m at + n ≤ length m)
      go [] e h = absurd h
      go (b ∷ l) e h =
          let k = h.0 in
          let fits : suc (length l) ≡ length m - past_blanks m at = sym (ap length e) ∙ length-drop (past_blanks m at) m in
          let tail : drop k l ≡ drop (past_blanks m at + n) m = ap (λ x. drop (suc k) x) (sym e) ∙ drop-drop (suc k) (past_blanks m at) m ∙ ap (λ x. drop (past_blanks m at + x) m) (sym h.1) in (
            cut_here b l e ∙ ap (λ f. placed (past_blanks m at) f (λ x. cut x (suc (past_blanks m at)) l)) h.2
                ∙ ap (next (past_blanks m at) t) (cut_past k (suc (past_blanks m at)) l h.3 ∙ ap (cut 0 (suc (past_blanks m at) + k)) tail ∙ ap (λ a. cut 0 a (drop (past_blanks m at + n) m)) (omega (arith, h.1))),
            omega (arith, h.1),
            omega (arith, h.1, h.3, fits),
          )

  pub see_wrong : (b : ℕ) (l : List ℕ) → drop (past_blanks m at) m ≡ b ∷ l → token b l ≡ nothing → from m at ≡ no_token (past_blanks m at)
  see_wrong b l e h = cut_here b l e ∙ ap (λ f. placed (past_blanks m at) f (λ x. cut x (suc (past_blanks m at)) l)) h

  pub see_end : drop (past_blanks m at) m ≡ [] → from m at ≡ end (past_blanks m at)
  unfolding cut
  see_end e = onward ∙ ap (cut 0 (past_blanks m at)) e

-- what a scanner that stands at `at` sees at p
abbrev pub Seen : List ℕ → ℕ → ℕ → Result (Answer (CodeToken × ℕ)) NoToken → Type 0
Seen m at p (Ok (Some (t, n))) = (from m at ≡ next p (meaning t) (from m (p + n))) × (0 < n) × (p + n ≤ length m)
Seen m at p (Ok None) = from m at ≡ end p
Seen m at p (Err e) = from m at ≡ no_token p

pub seen : (m : List ℕ) (at b : ℕ) (r : Result (Answer (CodeToken × ℕ)) NoToken) → b ≡ front blank (take (length m - at) (drop at m)) → Fronts (take (length m - (at + b)) (drop (at + b) m)) r → Seen m at (at + b) r
seen m at b r e h =
    let f : past_blanks m at ≡ at + b = ap (λ l. at + front blank l) (sym (take_rest m at)) ∙ ap (λ n. at + n) (sym e) in
    let g : Fronts (drop (past_blanks m at) m) r = rw f (rw (take_rest m (at + b)) at h) in
    subst (λ p. Seen m at p r) f (go r (drop (past_blanks m at) m) refl g)
  where
    go : (r : Result (Answer (CodeToken × ℕ)) NoToken) (l : List ℕ) → drop (past_blanks m at) m ≡ l → Fronts l r → Seen m at (past_blanks m at) r
    go (Ok (Some (t, n))) l e h = see_token m at (meaning t) n (subst (λ x. Begins x (meaning t) n) (sym e) h)
    go (Ok None) [] e h = see_end m at e
    go (Ok None) (b ∷ l) e h = absurd h
    go (Err x) [] e h = absurd h
    go (Err x) (b ∷ l) e h = see_wrong m at b l e h

-- no more tokens than bytes
pub cut_few : (n at : ℕ) (l : List ℕ) → count (cut n at l) ≤ length l
unfolding cut
cut_few n at [] = omega arith
cut_few (suc n) at (b ∷ l) = omega (arith, cut_few n (suc at) l)
cut_few zero at (b ∷ l) = go (blank b) (token b l) (cut_few zero (suc at) l) (λ n. cut_few n (suc at) l)
  where
    go : (x : Bool) (f : Found) → count (cut zero (suc at) l) ≤ length l → ((n : ℕ) → count (cut n (suc at) l) ≤ length l) → count (cond x (cut zero (suc at) l) (placed at f (λ n. cut n (suc at) l))) ≤ length (b ∷ l)
    go true f h k = omega arith
    go false (found t n) h k = omega (arith, k n)
    go false nothing h k = omega arith

-- what is seen is given, and the scanner goes on behind it
pub given : (s : Scanner) (p : ℕ) (r : Result (Answer CodeToken) NoToken) (q : ℕ) → Sees s p r q → Gives (ahead s) p r (from s.model.now q)
unfolding ahead
given s p (Ok (Some t)) q h = h.0
given s p (Ok None) q h = (h.0, ap (from s.model.now) h.1)
given s p (Err x) q h = (h.0, ap (from s.model.now) h.1)
