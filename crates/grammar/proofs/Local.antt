-- What a reading gives depends on the tokens that it passes and, at most, on the one after them; and no reading
-- within the limit of a function's text runs out of rounds. Assumes nothing.
use Rattle.std.proofs.Common.{◌≡◌, ℕ, zero, suc, ◌+◌, ◌<◌, ◌≤◌, Bool, true, false, cond, ltb, leb, List, [], ◌∷◌, ◌++◌, length, sym, refl, ap, ◌∙◌, subst, arith, length-append, leb-true}
use mathlib.Core.Option.{Option, none, some}
use Rattle.grammar.specs.Tokens.{Token, written, Tokens, end, no_token, next}
use Rattle.grammar.specs.Alone.{Carries, Head, put, weight, Passed, Span, AloneSpan, Alone}
use Rattle.grammar.specs.Readers.{Stand, Outcome, ok, no, Reader, after, ◌>>=◌, give, when, here, take_token, take_next, skip_token, skip_next, takes_of, skips_of, skips, if_some, chain, many}

pub clash : {A : Type 0} → ◌≡◌ {A = ℕ} 0 1 → A
clash e = absurd (omega arith)

-- a reading that gives something passes tokens, and gives the same in front of them elsewhere
pub record Spans {A : Type 0} (r : Reader A) : Type 0 where
  pub span : (s : Stand) (a : A) (s' : Stand) → r s ≡ ok a s' → Span r s a s'

-- a refusal is 2, 3 or 4
pub record Told {A : Type 0} (r : Reader A) : Type 0 where
  pub tells : (s : Stand) (n p : ℕ) → s.size ≤ 1025 → r s ≡ no n p → (2 ≤ n) × (n ≤ 4)

pub record Local {A : Type 0} (r : Reader A) : Type 0 where
  pub spans : Spans r
  pub told : Told r

carries_both : (c : Tokens) (u w : List Token) (d f : Tokens) → Carries c u d → Carries d w f → Carries c (u ++ w) f
carries_both c [] w d f e g = subst (λ c. Carries c w f) (sym e) g
carries_both (end p) (v ∷ u) w d f e g = absurd e
carries_both (no_token p) (v ∷ u) w d f e g = absurd e
carries_both (next p t c) (v ∷ u) w d f e g = (e.0, carries_both c u w d f e.1 g)

carries_split : (c : Tokens) (u w : List Token) (f : Tokens) → Carries c (u ++ w) f → (d : Tokens) × Carries c u d × Carries d w f
carries_split c [] w f e = (c, refl, e)
carries_split (end p) (v ∷ u) w f e = absurd e
carries_split (no_token p) (v ∷ u) w f e = absurd e
carries_split (next p t c) (v ∷ u) w f e = let h = carries_split c u w f e.1 in (h.0, (e.0, h.1), h.2)

head_mid : (c d : Tokens) (w : List Token) (f g : Tokens) → Carries c w f → Carries d w g → Head f g → Head c d
head_mid c d [] f g h k x = subst (λ c. Head c d) (sym h) (subst (λ d. Head f d) (sym k) x)
head_mid (end p) d (v ∷ w) f g h k x = absurd h
head_mid (no_token p) d (v ∷ w) f g h k x = absurd h
head_mid (next p t c) (end q) (v ∷ w) f g h k x = absurd k
head_mid (next p t c) (no_token q) (v ∷ w) f g h k x = absurd k
head_mid (next p t c) (next q u d) (v ∷ w) f g h k x = h.0 ∙ sym k.0

weight_both : (u w : List Token) → weight (u ++ w) ≡ weight u + weight w
weight_both [] w = omega arith
weight_both (t ∷ u) w = omega (arith, weight_both u w)

-- nothing was passed
abbrev stays : (s s' : Stand) → s ≡ s' → Passed s s'
stays s s' f = record {
  used = [];
  carried = ap (λ s. s.rest) f;
  indexed = let e : s.index ≡ s'.index = ap (λ s. s.index) f in omega arith;
  sized = let e : s.size ≡ s'.size = ap (λ s. s.size) f in omega arith;
  small = λ h. let e : s.size ≡ s'.size = ap (λ s. s.size) f in omega arith;
}

-- one token was passed
abbrev beyond : Stand → Token → Tokens → Stand
beyond s t c = record { index = s.index + 1; size = s.size + suc (length (written t)); rest = c }

abbrev fits : Stand → Token → Bool
fits s t = leb (s.size + suc (length (written t))) 1025

abbrev one : (s s' : Stand) (p : ℕ) (t : Token) (c : Tokens) → s.rest ≡ next p t c → fits s t ≡ true → beyond s t c ≡ s' → Passed s s'
one s s' p t c z l f = record {
  used = t ∷ [];
  carried = subst (λ r. Carries r (t ∷ []) s'.rest) (sym z) (refl, ap (λ s. s.rest) f);
  indexed = let e : s.index + 1 ≡ s'.index = ap (λ s. s.index) f in omega arith;
  sized = let e : s.size + suc (length (written t)) ≡ s'.size = ap (λ s. s.size) f in omega arith;
  small = λ h. let e : s.size + suc (length (written t)) ≡ s'.size = ap (λ s. s.size) f in omega (arith, leb-true (s.size + suc (length (written t))) 1025 l);
}

-- some were passed, and then others
abbrev both : (s s₁ s₂ : Stand) → Passed s s₁ → Passed s₁ s₂ → Passed s s₂
both s s₁ s₂ x y = record {
  used = x.used ++ y.used;
  carried = carries_both s.rest x.used y.used s₁.rest s₂.rest x.carried y.carried;
  indexed = omega (arith, length-append x.used y.used, x.indexed, y.indexed);
  sized = omega (arith, weight_both x.used y.used, x.sized, y.sized);
  small = λ h. y.small (x.small h);
}

span_bind : {A B : Type 0} (r : Reader A) (k : A → Reader B) → Spans r → ((a : A) → Spans (k a)) → Spans (r >>= k)
unfolding ◌>>=◌
span_bind {A} {B} r k lr lk = record { span = λ s b s₂ e. go s b s₂ (r s) refl e }
  where
    go : (s : Stand) (b : B) (s₂ : Stand) (o : Outcome A) → r s ≡ o → after o k ≡ ok b s₂ → Span (r >>= k) s b s₂
    go s b s₂ (ok a s₁) e f =
        let x = lr.span s a s₁ e in
        let y = (lk a).span s₁ b s₂ f in
        record {
          passed = both s s₁ s₂ x.passed y.passed;
          moved = λ c d h g.
              let m = carries_split c x.passed.used y.passed.used d h in
              ap (λ o. after o k) (x.moved c m.0 m.1 (head_mid s₁.rest m.0 y.passed.used s₂.rest d y.passed.carried m.2 g))
              ∙ y.moved m.0 d m.2 g;
        }
    go s b s₂ (no n p) e f = clash (cc)

told_bind : {A B : Type 0} (r : Reader A) (k : A → Reader B) → Local r → ((a : A) → Told (k a)) → Told (r >>= k)
unfolding ◌>>=◌
told_bind {A} {B} r k lr lk = record { tells = λ s n p h e. go s n p h (r s) refl e }
  where
    go : (s : Stand) (n p : ℕ) → s.size ≤ 1025 → (o : Outcome A) → r s ≡ o → after o k ≡ no n p → (2 ≤ n) × (n ≤ 4)
    go s n p h (ok a s₁) e f = (lk a).tells s₁ n p ((lr.spans.span s a s₁ e).passed.small h) f
    go s n p h (no m q) e f = let g : r s ≡ no n p = cc in lr.told.tells s n p h g

pub local_bind : {A B : Type 0} (r : Reader A) (k : A → Reader B) → Local r → ((a : A) → Local (k a)) → Local (r >>= k)
local_bind r k lr lk = record { spans = span_bind r k lr.spans (λ a. (lk a).spans); told = told_bind r k lr (λ a. (lk a).told) }

-- what gives something without a look at the tokens
gives : {A : Type 0} (f : Stand → A) → ((s : Stand) (e : Tokens) → f (put s e) ≡ f s) → Local (λ s. ok (f s) s)
gives {A} f keeps = record { spans = record { span = go }; told = record { tells = λ s n p h e. clash (cc) } }
  where
    go : (s : Stand) (b : A) (s' : Stand) → ok (f s) s ≡ ok b s' → Span (λ s. ok (f s) s) s b s'
    go s b s' e =
        let g : s ≡ s' = cc in
        let h : f s ≡ b = cc in
        record { passed = stays s s' g; moved = λ c d k x. ap (λ a. ok a (put s c)) (keeps s c ∙ h) ∙ ap (λ s. ok b (put s c)) g ∙ ap (λ c. ok b (put s' c)) k }

pub local_give : {A : Type 0} (a : A) → Local (give a)
local_give a = gives (λ _. a) (λ s e. refl)

pub local_here : Local here
local_here = gives (λ s. s.index) (λ s e. refl)

pub local_when : {A : Type 0} (b : Bool) (x y : Reader A) → Local x → Local y → Local (when b x y)
local_when true x y lx ly = lx
local_when false x y lx ly = ly

pub local_if : {A B : Type 0} (o : Option A) (k : A → Reader B) (r : Reader B) → ((a : A) → Local (k a)) → Local r → Local (if_some o k r)
local_if none k r lk lr = lr
local_if (some a) k r lk lr = lk a

abbrev judged : {B : Type 0} → Bool → Bool → B → Token → ℕ → Stand → Tokens → Outcome B
judged x y a t p s c = cond x (cond y (ok a (beyond s t c)) (no 4 p)) (no 4 p)

range : {A : Type 0} (m n p q : ℕ) → ◌≡◌ {A = Outcome A} (no m p) (no n q) → 2 ≤ m → m ≤ 4 → (2 ≤ n) × (n ≤ 4)
range m n p q e h k = let f : m ≡ n = cc in (omega arith, omega arith)

judged_told : {B : Type 0} (x y : Bool) (b : B) (t : Token) (p : ℕ) (s : Stand) (c : Tokens) (n q : ℕ) → judged x y b t p s c ≡ no n q → (2 ≤ n) × (n ≤ 4)
judged_told true true b t p s c n q e = clash (cc)
judged_told true false b t p s c n q e = range 4 n p q e (omega arith) (omega arith)
judged_told false y b t p s c n q e = range 4 n p q e (omega arith) (omega arith)

-- a token that was passed is passed wherever it stands
module _ {B : Type 0} (n limit : ℕ) where
  pass_moved : (b a : B) (t : Token) (p : ℕ) (s : Stand) (c : Tokens) (s' : Stand) (x y : Bool) → ltb n limit ≡ x → fits s t ≡ y → judged x y b t p s c ≡ ok a s'
      → (beyond s t c ≡ s') × (fits s t ≡ true) × ((q : ℕ) (e d : Tokens) → e ≡ d → judged (ltb n limit) (fits s t) b t q (put s (next q t e)) e ≡ ok a (put s' d))
  pass_moved b a t p s c s' true true l m e =
      let s₁ : Stand = beyond s t c in
      let g : s₁ ≡ s' = cc in
      let h : b ≡ a = cc in (
        g,
        m,
        λ q e d k.
            ap (λ x. judged x (fits s t) b t q (put s (next q t e)) e) l ∙ ap (λ y. judged true y b t q (put s (next q t e)) e) m
            ∙ ap (λ b. ok b (put s₁ e)) h ∙ ap (λ s. ok a (put s e)) g ∙ ap (λ e. ok a (put s' e)) k,
      )
  pass_moved b a t p s c s' true false l m e = clash (cc)
  pass_moved b a t p s c s' false y l m e = clash (cc)

-- a token that was taken
record Taken {A : Type 0} (n limit : ℕ) (f : Token → Option A) (s : Stand) (a : A) (s' : Stand) : Type 0 where
  token : Token
  passed : Passed s s'
  is : passed.used ≡ token ∷ []
  moved : (e d : Tokens) → Carries e (token ∷ []) d → take_next n limit f (put s e) e ≡ ok a (put s' d)

module _ {A : Type 0} (n limit : ℕ) (f : Token → Option A) where
  takes_span : (s : Stand) (c : Tokens) (a : A) (s' : Stand) → s.rest ≡ c → take_next n limit f s c ≡ ok a s' → Taken n limit f s a s'
  takes_span s (end p) a s' z e = clash (cc)
  takes_span s (no_token p) a s' z e = clash (cc)
  takes_span s (next p t c) a s' z e = go (f t) refl e
    where
      go : (o : Option A) → f t ≡ o → take_token n limit o t p s c ≡ ok a s' → Taken n limit f s a s'
      go none g e = clash (cc)
      go (some b) g e =
          let m = pass_moved n limit b a t p s c s' (ltb n limit) (fits s t) refl refl e in
          record { token = t; passed = one s s' p t c z m.1 m.0; is = refl; moved = mv m.2 }
        where
          mv : ((q : ℕ) (e d : Tokens) → e ≡ d → judged (ltb n limit) (fits s t) b t q (put s (next q t e)) e ≡ ok a (put s' d)) → (e d : Tokens) → Carries e (t ∷ []) d → take_next n limit f (put s e) e ≡ ok a (put s' d)
          mv k (end q) d h = absurd h
          mv k (no_token q) d h = absurd h
          mv k (next q v x) d h =
              ap (λ v. take_token n limit (f v) v q (put s (next q v x)) x) h.0 ∙ ap (λ o. take_token n limit o t q (put s (next q t x)) x) g ∙ k q x d h.1

  takes_told : (s : Stand) (c : Tokens) (m q : ℕ) → take_next n limit f s c ≡ no m q → (2 ≤ m) × (m ≤ 4)
  takes_told s (end p) m q e = range 3 m p q e (omega arith) (omega arith)
  takes_told s (no_token p) m q e = range 2 m p q e (omega arith) (omega arith)
  takes_told s (next p t c) m q e = go (f t) e
    where
      go : (o : Option A) → take_token n limit o t p s c ≡ no m q → (2 ≤ m) × (m ≤ 4)
      go none e = range 3 m p q e (omega arith) (omega arith)
      go (some b) e = judged_told (ltb n limit) (fits s t) b t p s c m q e

  pub local_takes : Local (takes_of n limit f)
  unfolding takes_of
  local_takes = record {
    spans = record {
      span = λ s a s' e.
          let x = takes_span s s.rest a s' refl e in
          record { passed = x.passed; moved = λ c d h g. x.moved c d (subst (λ u. Carries c u d) x.is h) };
    };
    told = record { tells = λ s m q h e. takes_told s s.rest m q e };
  }

  -- nothing was skipped, and it is so in front of the same token or at the end
  skips_none : (s s' : Stand) (a : Option A) → s ≡ s' → none ≡ a → ((d : Tokens) → Head s.rest d → skip_next n limit f (put s d) d ≡ ok none (put s d)) → Span (skips_of n limit f) s a s'
  unfolding skips_of
  skips_none s s' a g h k = record {
    passed = stays s s' g;
    moved = λ c d e x.
        ap (λ c. skip_next n limit f (put s c) c) e ∙ k d (subst (λ s. Head s.rest d) (sym g) x)
        ∙ ap (λ s. ok none (put s d)) g ∙ ap (λ a. ok a (put s' d)) h;
  }

  skips_span : (s : Stand) (c : Tokens) (a : Option A) (s' : Stand) → s.rest ≡ c → skip_next n limit f s c ≡ ok a s' → Span (skips_of n limit f) s a s'
  unfolding skips_of
  skips_span s (end p) a s' z e =
      let g : s ≡ s' = cc in
      let h : none ≡ a = cc in
      skips_none s s' a g h (λ d x. mv d (subst (λ r. Head r d) z x))
    where
      mv : (d : Tokens) → Head (end p) d → skip_next n limit f (put s d) d ≡ ok none (put s d)
      mv (end q) x = refl
      mv (no_token q) x = absurd x
      mv (next q v d) x = absurd x
  skips_span s (no_token p) a s' z e = clash (cc)
  skips_span s (next p t c) a s' z e = go (f t) refl e
    where
      mv : f t ≡ none → (d : Tokens) → Head (next p t c) d → skip_next n limit f (put s d) d ≡ ok none (put s d)
      mv y (end q) x = absurd x
      mv y (no_token q) x = absurd x
      mv y (next q v d) x = ap (λ o. skip_token n limit o v q (put s (next q v d)) d) (sym (ap f x) ∙ y)

      mvs : (b : A) → f t ≡ some b → ((q : ℕ) (e d : Tokens) → e ≡ d → judged (ltb n limit) (fits s t) (some b) t q (put s (next q t e)) e ≡ ok a (put s' d)) → (e d : Tokens) → Carries e (t ∷ []) d → skip_next n limit f (put s e) e ≡ ok a (put s' d)
      mvs b y k (end q) d h = absurd h
      mvs b y k (no_token q) d h = absurd h
      mvs b y k (next q v x) d h =
          ap (λ v. skip_token n limit (f v) v q (put s (next q v x)) x) h.0 ∙ ap (λ o. skip_token n limit o t q (put s (next q t x)) x) y ∙ k q x d h.1

      go : (o : Option A) → f t ≡ o → skip_token n limit o t p s c ≡ ok a s' → Span (skips_of n limit f) s a s'
      go none y e =
          let g : s ≡ s' = cc in
          let h : none ≡ a = cc in
          skips_none s s' a g h (λ d x. mv y d (subst (λ r. Head r d) z x))
      go (some b) y e =
          let m = pass_moved n limit (some b) a t p s c s' (ltb n limit) (fits s t) refl refl e in
          record { passed = one s s' p t c z m.1 m.0; moved = λ c₁ d h x. mvs b y m.2 c₁ d h }

  skips_told : (s : Stand) (c : Tokens) (m q : ℕ) → skip_next n limit f s c ≡ no m q → (2 ≤ m) × (m ≤ 4)
  skips_told s (end p) m q e = clash (cc)
  skips_told s (no_token p) m q e = range 2 m p q e (omega arith) (omega arith)
  skips_told s (next p t c) m q e = go (f t) e
    where
      go : (o : Option A) → skip_token n limit o t p s c ≡ no m q → (2 ≤ m) × (m ≤ 4)
      go none e = clash (cc)
      go (some b) e = judged_told (ltb n limit) (fits s t) (some b) t p s c m q e

  pub local_skips : Local (skips_of n limit f)
  unfolding skips_of
  local_skips = record {
    spans = record { span = λ s a s' e. skips_span s s.rest a s' refl e };
    told = record { tells = λ s m q h e. skips_told s s.rest m q e };
  }

  -- what is skipped has bytes
  pub skips_grows : (s : Stand) (c : Tokens) (b : A) (s' : Stand) → skip_next n limit f s c ≡ ok (some b) s' → s.size < s'.size
  skips_grows s (end p) b s' e = clash (cc)
  skips_grows s (no_token p) b s' e = clash (cc)
  skips_grows s (next p t c) b s' e = go (f t) e
    where
      pass : (x y : Bool) (d : A) → judged x y (some d) t p s c ≡ ok (some b) s' → s.size < s'.size
      pass true true d e =
          let s₁ : Stand = beyond s t c in
          let g : s₁ ≡ s' = cc in
          let h : s.size + suc (length (written t)) ≡ s'.size = ap (λ s. s.size) g in
          omega arith
      pass true false d e = clash (cc)
      pass false y d e = clash (cc)

      go : (o : Option A) → skip_token n limit o t p s c ≡ ok (some b) s' → s.size < s'.size
      go none e = clash (cc)
      go (some d) e = pass (ltb n limit) (fits s t) d e

-- loops
module _ {A B : Type 0} (f : Token → Option B) (more : B → A → Reader A) (l : (b : B) (a : A) → Local (more b a)) where
  span_chain : (n : ℕ) (a : A) → Spans (chain f more n a)
  unfolding chain
  span_chain zero a = record { span = λ s b s' e. clash (cc) }
  span_chain (suc n) a =
      span_bind (skips f) (λ t. if_some t (λ b. more b a >>= chain f more n) (give a)) (local_skips 0 1 f).spans (λ t. go t (span_chain n))
    where
      go : (t : Option B) → ((a : A) → Spans (chain f more n a)) → Spans (if_some t (λ b. more b a >>= chain f more n) (give a))
      go none ih = (local_give a).spans
      go (some b) ih = span_bind (more b a) (chain f more n) (l b a).spans ih

  -- each round passes bytes, so as many rounds as bytes are enough
  chain_told : (n : ℕ) (a : A) (s : Stand) (m q : ℕ) → s.size ≤ 1025 → 1026 ≤ s.size + n → chain f more n a s ≡ no m q → (2 ≤ m) × (m ≤ 4)
  unfolding chain ◌>>=◌ skips_of
  chain_told zero a s m q h k e = absurd (omega arith)
  chain_told (suc n) a s m q h k e = go (skip_next 0 1 f s s.rest) refl e (chain_told n)
    where
      go₁ : (b : B) (s₁ : Stand) → s₁.size ≤ 1025 → s.size < s₁.size → (o : Outcome A) → more b a s₁ ≡ o → after o (chain f more n) ≡ no m q
          → ((a : A) (s : Stand) (m q : ℕ) → s.size ≤ 1025 → 1026 ≤ s.size + n → chain f more n a s ≡ no m q → (2 ≤ m) × (m ≤ 4)) → (2 ≤ m) × (m ≤ 4)
      go₁ b s₁ h₁ g (ok d s₂) e₁ e ih =
          let x = ((l b a).spans.span s₁ d s₂ e₁).passed in
          ih d s₂ m q (x.small h₁) (omega (arith, x.sized)) e
      go₁ b s₁ h₁ g (no x y) e₁ e ih = let z : more b a s₁ ≡ no m q = cc in (l b a).told.tells s₁ m q h₁ z

      go : (o : Outcome (Option B)) → skip_next 0 1 f s s.rest ≡ o → after o (λ t. if_some t (λ b s. after (more b a s) (chain f more n)) (give a)) ≡ no m q
          → ((a : A) (s : Stand) (m q : ℕ) → s.size ≤ 1025 → 1026 ≤ s.size + n → chain f more n a s ≡ no m q → (2 ≤ m) × (m ≤ 4)) → (2 ≤ m) × (m ≤ 4)
      go (ok none s₁) e₁ e ih = clash (cc)
      go (ok (some b) s₁) e₁ e ih =
          go₁ b s₁ ((skips_span 0 1 f s s.rest (some b) s₁ refl e₁).passed.small h) (skips_grows 0 1 f s s.rest b s₁ e₁) (more b a s₁) refl e ih
      go (no x y) e₁ e ih = let z : skip_next 0 1 f s s.rest ≡ no m q = cc in skips_told 0 1 f s s.rest m q z

  pub local_many : (a : A) → Local (many f more a)
  local_many a = record { spans = span_chain 1026 a; told = record { tells = λ s m q h e. chain_told 1026 a s m q h (omega arith) e } }

-- Readings that depend on nothing behind the tokens that they pass.

some_length : (u w : List Token) → 0 < length w → 0 < length (u ++ w)
some_length [] w h = h
some_length (v ∷ u) w h = omega arith

head_some : (c d : Tokens) (w : List Token) (f g : Tokens) → 0 < length w → Carries c w f → Carries d w g → Head c d
head_some c d [] f g l h k = absurd (omega arith)
head_some (end p) d (v ∷ w) f g l h k = absurd h
head_some (no_token p) d (v ∷ w) f g l h k = absurd h
head_some (next p t c) (end q) (v ∷ w) f g l h k = absurd k
head_some (next p t c) (no_token q) (v ∷ w) f g l h k = absurd k
head_some (next p t c) (next q u d) (v ∷ w) f g l h k = h.0 ∙ sym k.0

pub alone_bind : {A B : Type 0} (r : Reader A) (k : A → Reader B) → Local r → ((a : A) → Alone (k a)) → Alone (r >>= k)
unfolding ◌>>=◌
alone_bind {A} {B} r k lr lk = record { span = λ s b s₂ e. go s b s₂ (r s) refl e }
  where
    go : (s : Stand) (b : B) (s₂ : Stand) (o : Outcome A) → r s ≡ o → after o k ≡ ok b s₂ → AloneSpan (r >>= k) s b s₂
    go s b s₂ (ok a s₁) e f =
        let x = lr.spans.span s a s₁ e in
        let y = (lk a).span s₁ b s₂ f in
        record {
          passed = both s s₁ s₂ x.passed y.passed;
          any = some_length x.passed.used y.passed.used y.any;
          moved = λ c d h.
              let m = carries_split c x.passed.used y.passed.used d h in
              ap (λ o. after o k) (x.moved c m.0 m.1 (head_some s₁.rest m.0 y.passed.used s₂.rest d y.any y.passed.carried m.2))
              ∙ y.moved m.0 d m.2;
        }
    go s b s₂ (no n p) e f = clash (cc)

-- a token that is taken at the end
pub alone_takes : {A B : Type 0} (n limit : ℕ) (f : Token → Option A) (k : A → B) → Alone (takes_of n limit f >>= (λ a. give (k a)))
unfolding ◌>>=◌ takes_of
alone_takes {A} {B} n limit f k = record { span = λ s b s₂ e. go s b s₂ (take_next n limit f s s.rest) refl e }
  where
    go : (s : Stand) (b : B) (s₂ : Stand) (o : Outcome A) → take_next n limit f s s.rest ≡ o → after o (λ a. give (k a)) ≡ ok b s₂ → AloneSpan (takes_of n limit f >>= (λ a. give (k a))) s b s₂
    go s b s₂ (ok a s₁) e g =
        let x = takes_span n limit f s s.rest a s₁ refl e in
        let y : s₁ ≡ s₂ = cc in
        let z : k a ≡ b = cc in
        record {
          passed = both s s₁ s₂ x.passed (stays s₁ s₂ y);
          any = some_used x.passed.used x.token x.is;
          moved = λ c d h.
              ap (λ o. after o (λ a. give (k a))) (x.moved c d (subst (λ u. Carries c u d) (no_more x.passed.used ∙ x.is) h))
              ∙ ap (λ b. ok b (put s₁ d)) z ∙ ap (λ s. ok b (put s d)) y;
        }
      where
        no_more : (u : List Token) → u ++ [] ≡ u
        no_more [] = refl
        no_more (t ∷ u) = ap (λ v. t ∷ v) (no_more u)

        some_used : (u : List Token) (t : Token) → u ≡ t ∷ [] → 0 < length (u ++ [])
        some_used u t e = rw e (omega arith)
    go s b s₂ (no m p) e g = clash (cc)
