-- What is known of the functions that a model is read as. Assumes nothing.
use Rattle.std.proofs.Common.{◌≡◌, ℕ, zero, suc, ◌+◌, ◌≤◌, Bool, true, false, cond, leb, List, [], ◌∷◌, ◌++◌, length, take, sym, refl, ap, ◌∙◌, subst, arith, length-append, leb-true}
use mathlib.Core.Option.{some}
use Rattle.values.specs.Values.{Name}
use Rattle.grammar.specs.Tokens.{Token, word, text, same, sign, written, Tokens, end, no_token, next, bare, places, tokens_of}
use Rattle.grammar.specs.Texts.{joined, AllReal}
use Rattle.grammar.specs.Alone.{Carries, put, weight}
use Rattle.grammar.specs.Readers.{Stand, fresh, Outcome, ok, no, Reader, after, ◌>>=◌, takes_of, skips_of, ends}
use Rattle.grammar.specs.Syntax.{Function, Source}
use Rattle.grammar.specs.Grammar.{function, source, functions, model, reads}
use Rattle.grammar.proofs.Joins.{cut_real}
use Rattle.grammar.proofs.Placeless.{local_function, functions_stand_alone}

-- past a function's name
abbrev pub begun : Name → Tokens → Stand
begun w c = record { index = 1; size = 0 + suc (length w); rest = c }

-- a function's tokens are its name and those that it is read from, wherever they stand; its text is short
pub record Sound (f : Source) : Type 0 where
  pub name : Name
  pub used : List Token
  pub is : f.tokens ≡ word name ∷ used
  pub real : AllReal f.tokens
  pub short : length (joined f.tokens) ≤ 1024
  pub behind : Stand
  pub again : (c d : Tokens) → Carries c used d → function name (begun name c) ≡ ok f.syntax (put behind d)

abbrev pub AllSound : List Source → Type 0
AllSound [] = Unit {0}
AllSound (f ∷ fs) = Sound f × AllSound fs

one_more : (fs : List Source) (f : Source) → AllSound fs → Sound f → AllSound (fs ++ f ∷ [])
one_more [] f a s = (s, tt)
one_more (g ∷ fs) f a s = (a.0, one_more fs f a.1 s)

-- lengths of texts
joined_weight : (t : Token) (ts : List Token) → suc (length (joined (t ∷ ts))) ≡ weight (t ∷ ts)
joined_weight t [] = omega arith
joined_weight t (u ∷ us) = omega (arith, length-append (written t) (32 ∷ joined (u ∷ us)), joined_weight u us)

-- tokens that were passed
carried_bare : (c : Tokens) (u : List Token) (d : Tokens) → Carries c u d → bare c ≡ u ++ bare d
carried_bare c [] d h = ap bare h
carried_bare (end p) (v ∷ u) d h = absurd h
carried_bare (no_token p) (v ∷ u) d h = absurd h
carried_bare (next p t c) (v ∷ u) d h = ap (λ x. x ∷ bare c) h.0 ∙ ap (λ l. v ∷ l) (carried_bare c u d h.1)

real_front : (u w : List Token) → AllReal (u ++ w) → AllReal u
real_front [] w r = tt
real_front (t ∷ u) w r = (r.0, real_front u w r.1)

real_back : (u w : List Token) → AllReal (u ++ w) → AllReal w
real_back [] w r = r
real_back (t ∷ u) w r = real_back u w r.1

take_used : (u w : List Token) → take (length u) (u ++ w) ≡ u
take_used [] w = refl
take_used (t ∷ u) w = ap (λ l. t ∷ l) (take_used u w)

-- what a model is read as: functions of which that is known, or 2, 3 or 4
abbrev pub Good : Outcome (List Source) → Type 0
Good (ok fs s) = AllSound fs
Good (no n p) = (2 ≤ n) × (n ≤ 4)

-- the name of a function, if it is within the limit
named_good : {A : Type 0} (a : A) (w : Name) (c : Tokens) (p : ℕ) (k : A → Reader (List Source)) (b : Bool) → leb (0 + suc (length w)) 1025 ≡ b
    → (0 + suc (length w) ≤ 1025 → Good (k a (begun w c))) → Good (after (cond b (ok a (begun w c)) (no 4 p)) k)
named_good a w c p k true e g = g (leb-true (0 + suc (length w)) 1025 e)
named_good a w c p k false e g = (omega arith, omega arith)

-- a function behind its name
abbrev made : Function → ℕ → Tokens → Source
made f n c = record { syntax = f; tokens = take n (bare c); places = take n (places c) }

made_sound : (p : ℕ) (w : Name) (c : Tokens) (f : Function) (s : Stand) → AllReal (bare (next p (word w) c)) → 0 + suc (length w) ≤ 1025 → function w (begun w c) ≡ ok f s
    → Sound (made f s.index (next p (word w) c)) × AllReal (bare s.rest)
made_sound p w c f s r h e =
    let x = (functions_stand_alone w).span (begun w c) f s e in
    let u = x.passed.used in
    let count : s.index ≡ suc (length u) = omega (arith, x.passed.indexed) in
    let bares : bare c ≡ u ++ bare s.rest = carried_bare c u s.rest x.passed.carried in
    let is : take s.index (word w ∷ bare c) ≡ word w ∷ u = ap (λ n. take n (word w ∷ bare c)) count ∙ ap (λ l. word w ∷ take (length u) l) bares ∙ ap (λ l. word w ∷ l) (take_used u (bare s.rest)) in
    let rest : AllReal (u ++ bare s.rest) = subst AllReal bares r.1 in (
      record {
        name = w;
        used = u;
        is = is;
        real = subst AllReal (sym is) (r.0, real_front u (bare s.rest) rest);
        short = subst (λ ts. length (joined ts) ≤ 1024) (sym is) (let k : s.size ≤ 1025 = x.passed.small h in omega (arith, joined_weight (word w) u, x.passed.sized));
        behind = s;
        again = x.moved;
      },
      real_back u (bare s.rest) rest,
    )

source_good : (p : ℕ) (w : Name) (c : Tokens) (k : Source → Reader (List Source)) → AllReal (bare (next p (word w) c)) → 0 + suc (length w) ≤ 1025
    → ((f : Source) (d : Tokens) → Sound f → AllReal (bare d) → Good (k f (fresh d))) → Good (after (source (next p (word w) c) w (begun w c)) k)
unfolding source ◌>>=◌
source_good p w c k r h g = go (function w (begun w c)) refl
  where
    go : (o : Outcome Function) → function w (begun w c) ≡ o → Good (after (after o (λ f s. ok (made f s.index (next p (word w) c)) (fresh s.rest))) k)
    go (ok f s) e = let x = made_sound p w c f s r h e in g (made f s.index (next p (word w) c)) s.rest x.0 x.1
    go (no n q) e = (local_function w).told.tells (begun w c) n q h e

functions_good : (n : ℕ) (fs : List Source) (c : Tokens) → AllReal (bare c) → AllSound fs → Good (functions n fs (fresh c))
unfolding functions ◌>>=◌ skips_of ends
functions_good zero fs (end p) r a = a
functions_good zero fs (no_token p) r a = (omega arith, omega arith)
functions_good zero fs (next p (word w) c) r a = (omega arith, omega arith)
functions_good zero fs (next p (text t) c) r a = (omega arith, omega arith)
functions_good zero fs (next p same c) r a = (omega arith, omega arith)
functions_good zero fs (next p (sign b) c) r a = (omega arith, omega arith)
functions_good (suc n) fs (end p) r a = a
functions_good (suc n) fs (no_token p) r a = (omega arith, omega arith)
functions_good (suc n) fs (next p (text t) c) r a = (omega arith, omega arith)
functions_good (suc n) fs (next p same c) r a = (omega arith, omega arith)
functions_good (suc n) fs (next p (sign b) c) r a = (omega arith, omega arith)
functions_good (suc n) fs (next p (word w) c) r a =
    named_good (some w) w c p _ (leb (0 + suc (length w)) 1025) refl
    (λ h. source_good p w c (λ f. functions n (fs ++ f ∷ [])) r h (λ f d s q. functions_good n (fs ++ f ∷ []) d q (one_more fs f a s)))

model_good : (c : Tokens) → AllReal (bare c) → Good (model (fresh c))
unfolding model ◌>>=◌ takes_of
model_good (end p) r = (omega arith, omega arith)
model_good (no_token p) r = (omega arith, omega arith)
model_good (next p (text t) c) r = (omega arith, omega arith)
model_good (next p same c) r = (omega arith, omega arith)
model_good (next p (sign b) c) r = (omega arith, omega arith)
model_good (next p (word w) c) r =
    named_good w w c p _ (leb (0 + suc (length w)) 1025) refl
    (λ h. source_good p w c (λ f. functions 63 (f ∷ [])) r h (λ f d s q. functions_good 63 (f ∷ []) d q (s, tt)))

pub reads_good : (bytes : List ℕ) → Good (reads bytes)
reads_good bytes = model_good (tokens_of bytes) (cut_real 0 0 bytes)
