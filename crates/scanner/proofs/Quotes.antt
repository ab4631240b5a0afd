-- Quoted texts, piece by piece. Assumes nothing.
use Rattle.std.proofs.Common.{◌≡◌, ℕ, suc, ◌+◌, ◌-◌, ◌<◌, ◌≤◌, Bool, true, false, cond, eqb, List, [], ◌∷◌, ◌++◌, length, get_or, take, drop, Some, None, Option as Answer, Ok, Err, Result, sym, refl, ap, ◌∙◌, subst, arith, length-append}
use mathlib.Core.Option.{Option, none, some}
use Rattle.std.proofs.lemmas.List.{take_rest, drop-drop, length-take-le, length-drop}
use Rattle.std.specs.Result.{is_err, result_ok}
use Rattle.grammar.specs.Tokens.{text, escaped, printable, behind, closed, found, found_text, token}
use Rattle.scanner.specs.Views.{text_length, GoesOn, Begins}

pub clash : {A : Type 0} → ◌≡◌ {A = ℕ} 0 1 → A
clash e = absurd (omega arith)

-- the length of a text that stands behind n bytes of it
abbrev pub counted : ℕ → Option (List ℕ) → Answer ℕ
counted n none = None
counted n (some r) = Some (n + length r)

pub uncounted : (o : Option (List ℕ)) → counted 0 o ≡ text_length o
uncounted none = refl
uncounted (some r) = ap Some (omega arith)

counted_more : (i n : ℕ) (l : List ℕ) (o : Option (List ℕ)) → n ≤ length l → counted i (behind (take n l) o) ≡ counted (i + n) o
counted_more i n l none h = refl
counted_more i n l (some r) h =
    let k : length (take n l) ≡ n = length-take-le n l h in
    ap Some (omega (arith, length-append (take n l) r))

-- what is left gives what the whole gave
abbrev pub Left : List ℕ → ℕ → Type 0
Left s i = (i ≤ length s) × (counted i (closed (drop i s)) ≡ counted 0 (closed s))

pub left_more : (s : List ℕ) (i n : ℕ) → Left s i → GoesOn (take (length s - i) (drop i s)) (Ok (Some n)) → Left s (i + n)
left_more s i n l g =
    let h : GoesOn (drop i s) (Ok (Some n)) = subst (λ r. GoesOn r (Ok (Some n))) (take_rest s i) g in
    let k : length (drop i s) ≡ length s - i = length-drop i s in
    (omega (arith, l.0, h.2), sym (counted_more i n (drop i s) (closed (drop n (drop i s))) h.2 ∙ ap (λ r. counted (i + n) (closed r)) (drop-drop n i s)) ∙ ap (counted i) (sym h.0) ∙ l.1)

pub left_close : (s : List ℕ) (i : ℕ) → Left s i → closed (take (length s - i) (drop i s)) ≡ some [] → Some i ≡ text_length (closed s)
left_close s i l e =
    let z : Some i ≡ Some (i + 0) = ap Some (omega arith) in
    z ∙ ap (counted i) (sym e ∙ ap closed (take_rest s i)) ∙ l.1 ∙ uncounted (closed s)

pub failed : {A E : Type 0} (r : Result A E) → is_err r ≡ true → result_ok r ≡ None
failed (Ok x) e = clash (cc)
failed (Err x) e = refl

pub left_wrong : (s : List ℕ) (i : ℕ) → Left s i → closed (take (length s - i) (drop i s)) ≡ none → None ≡ text_length (closed s)
left_wrong s i l e = ap (counted i) (sym e ∙ ap closed (take_rest s i)) ∙ l.1 ∙ uncounted (closed s)

-- what stands before the closing quote is a part of the bytes
abbrev Part : List ℕ → List ℕ → Type 0
Part l t = (take (length t) l ≡ t) × (length t < length l)

behind_some : (w : List ℕ) (o : Option (List ℕ)) (t : List ℕ) → behind w o ≡ some t → (v : List ℕ) × (o ≡ some v) × (w ++ v ≡ t)
behind_some w none t e = clash (cc)
behind_some w (some v) t e = (v, refl, cc)

closed_part : (l t : List ℕ) → closed l ≡ some t → Part l t
closed_part [] t e = clash (cc)
closed_part (a ∷ []) t e = go (eqb a 34) e
  where
    go : (b : Bool) → cond b (some []) none ≡ some t → Part (a ∷ []) t
    go true e = let f : [] ≡ t = cc in subst (Part (a ∷ [])) f (refl, omega arith)
    go false e = clash (cc)
closed_part (a ∷ b ∷ l) t e = go (eqb a 34) e (closed_part l) (closed_part (b ∷ l))
  where
    escape : (x : Bool) → cond x (behind (a ∷ b ∷ []) (closed l)) none ≡ some t → ((t : List ℕ) → closed l ≡ some t → Part l t) → Part (a ∷ b ∷ l) t
    escape true e ih =
        let v = behind_some (a ∷ b ∷ []) (closed l) t e in
        let p = ih v.0 v.1 in
        subst (Part (a ∷ b ∷ l)) v.2 (ap (λ r. a ∷ b ∷ r) p.0, omega (arith, p.1))
    escape false e ih = clash (cc)

    plain : (x : Bool) → cond x (behind (a ∷ []) (closed (b ∷ l))) none ≡ some t → ((t : List ℕ) → closed (b ∷ l) ≡ some t → Part (b ∷ l) t) → Part (a ∷ b ∷ l) t
    plain true e ih =
        let v = behind_some (a ∷ []) (closed (b ∷ l)) t e in
        let p = ih v.0 v.1 in
        subst (Part (a ∷ b ∷ l)) v.2 (ap (λ r. a ∷ r) p.0, omega (arith, p.1))
    plain false e ih = clash (cc)

    two : (x : Bool) → cond x (cond (escaped b) (behind (a ∷ b ∷ []) (closed l)) none) (cond (printable a) (behind (a ∷ []) (closed (b ∷ l))) none) ≡ some t
        → ((t : List ℕ) → closed l ≡ some t → Part l t) → ((t : List ℕ) → closed (b ∷ l) ≡ some t → Part (b ∷ l) t) → Part (a ∷ b ∷ l) t
    two true e ih ih₁ = escape (escaped b) e ih
    two false e ih ih₁ = plain (printable a) e ih₁

    go : (x : Bool) → cond x (some []) (cond (eqb a 92) (cond (escaped b) (behind (a ∷ b ∷ []) (closed l)) none) (cond (printable a) (behind (a ∷ []) (closed (b ∷ l))) none)) ≡ some t
        → ((t : List ℕ) → closed l ≡ some t → Part l t) → ((t : List ℕ) → closed (b ∷ l) ≡ some t → Part (b ∷ l) t) → Part (a ∷ b ∷ l) t
    go true e ih ih₁ = let f : [] ≡ t = cc in subst (Part (a ∷ b ∷ l)) f (refl, omega arith)
    go false e ih ih₁ = two (eqb a 92) e ih ih₁

-- a quoted text in front
pub text_begins : (l : List ℕ) (n : ℕ) → 0 < length l → get_or l 0 0 ≡ 34 → Some n ≡ text_length (closed (take (length l - 1) (drop 1 l))) → Begins l (text (take n (take (length l - 1) (drop 1 l)))) (n + 2)
text_begins [] n h e f = absurd (omega arith)
text_begins (b ∷ r) n h e f = go (closed r) refl (f ∙ ap (λ x. text_length (closed x)) (take_rest (b ∷ r) 1))
  where
    go : (o : Option (List ℕ)) → closed r ≡ o → Some n ≡ text_length o → Begins (b ∷ r) (text (take n (take (length (b ∷ r) - 1) r))) (n + 2)
    go none k g = clash (cc)
    go (some t) k g =
        let p = closed_part r t k in
        let m : n ≡ length t = cc in
        let cut : t ≡ take n (take (length (b ∷ r) - 1) r) = sym p.0 ∙ ap (λ i. take i r) (sym m) ∙ ap (take n) (sym (take_rest (b ∷ r) 1)) in
        (suc (length t), omega (arith, m), ap (λ b. token b r) e ∙ ap found_text k ∙ ap (λ x. found (text x) (suc (length t))) cut, p.1)
