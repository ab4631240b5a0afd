-- Answers in a pool that grows. Assumes nothing.
use Rattle.std.proofs.Common.{◌≡◌, ℕ, ◌+◌, ◌≤◌, true, List, [], ◌∷◌, ◌++◌, map, length, take, drop, Some, None, Option as Perhaps, sym, refl, ap, ◌∙◌, append-nil, arith, length-drop, length-take}
use mathlib.Core.Option.{some}
use Rattle.std.proofs.lemmas.Bool.Decides.{nat_tests}
use Rattle.std.proofs.lemmas.List.{map-append, take-append-le, drop-append-le, drop_at, take_all}
use Rattle.std.proofs.lemmas.Bool.{and_parts, and_from, leb-true, le-leb}
use Rattle.std.specs.Option.{unwrap_or, option_and}
use Rattle.std.specs.Borrow.{Bor}
use Rattle.tools.specs.Calls.{meant, told}
use Rattle.tools.specs.declared.answers.Span.{Span}
use Rattle.toolrun.specs.Runs.{size, sizes}
use Rattle.toolrun.specs.Told.{lies_within, all_within, bytes_of, told_bytes}

wider : (n m : ℕ) (t : Perhaps Span) → n ≤ m → lies_within n t ≡ true → lies_within m t ≡ true
wider n m None h e = refl
wider n m (Some s) h e = let l = leb-true (s.start + s.len) n e in le-leb (s.start + s.len) m (omega arith)

pub within_push : (n m : ℕ) (ts : List (Perhaps Span)) (t : Perhaps Span) → n ≤ m → all_within n ts ≡ true → lies_within m t ≡ true → all_within m (ts ++ t ∷ []) ≡ true
within_push n m [] t h e f = and_from (lies_within m t) true f refl
within_push n m (u ∷ ts) t h e f = let e2 = and_parts (lies_within n u) (all_within n ts) e in and_from (lies_within m u) (all_within m (ts ++ t ∷ [])) (wider n m u h e2.0) (within_push n m ts t h e2.1 f)

pub bytes_push : (ts : List (Perhaps Span)) (t : Perhaps Span) → told_bytes (ts ++ t ∷ []) ≡ told_bytes ts + bytes_of t
bytes_push [] t = omega arith
bytes_push (u ∷ ts) t = let r = bytes_push ts t in omega arith

-- what is told stays as the pool grows
meant_more : (pool more : List ℕ) (t : Perhaps Span) → lies_within (length pool) t ≡ true → meant (pool ++ more) t ≡ meant pool t
meant_more pool more None e = refl
meant_more pool more (Some s) e =
    let l = leb-true (s.start + s.len) (length pool) e in
    ap some (ap (take s.len) (drop-append-le s.start pool more (omega arith)) ∙ take-append-le s.len (drop s.start pool) more (simp length-drop (omega arith)))

all_more : (pool more : List ℕ) (ts : List (Perhaps Span)) → all_within (length pool) ts ≡ true → map (meant (pool ++ more)) ts ≡ map (meant pool) ts
all_more pool more [] e = refl
all_more pool more (t ∷ ts) e = let e2 = and_parts (lies_within (length pool) t) (all_within (length pool) ts) e in (λ j. meant_more pool more t e2.0 j ∷ all_more pool more ts e2.1 j)

meant_last : (pool text : List ℕ) (n : ℕ) → n ≡ length pool → meant (pool ++ text) (Some (record { start = n; len = length text })) ≡ some text
meant_last pool text n e = ap some (ap (take (length text)) (drop_at pool text n (sym e)) ∙ take_all (length text) text (omega arith))

-- one answer more
text_told : (pool pool' text : List ℕ) (ts ts' : List (Perhaps Span)) (n : ℕ) → n ≡ length pool → pool' ≡ pool ++ text → ts' ≡ ts ++ Some (record { start = n; len = length text }) ∷ [] → all_within (length pool) ts ≡ true → map (meant pool') ts' ≡ map (meant pool) ts ++ some text ∷ []
text_told pool pool' text ts ts' n e p q w =
    (λ j. map (meant (p j)) (q j)) ∙ map-append (meant (pool ++ text)) ts (Some (record { start = n; len = length text }) ∷ [])
    ∙ (λ j. all_more pool text ts w j ++ meant_last pool text n e j ∷ [])

-- the answer to be kept is a text, or none, which has no bytes
pub size_told : (o : Perhaps (Bor (List ℕ))) (d u : Bor (List ℕ)) → d.now ≡ [] → u ≡ unwrap_or o d → size (told o) ≡ length u.now
size_told None d u e h = sym (ap (λ x. length x.now) h ∙ ap length e)
size_told (Some t) d u e h = ap (λ x. length x.now) (sym h)

pub bytes_told : (o : Perhaps (Bor (List ℕ))) (d u : Bor (List ℕ)) (a : Perhaps Span) (n : ℕ) → d.now ≡ [] → u ≡ unwrap_or o d → a ≡ option_and o (Some (record { start = n; len = length u.now })) → bytes_of a ≡ length u.now
bytes_told None d u a n e h k = ap bytes_of k ∙ sym (ap (λ x. length x.now) h ∙ ap length e)
bytes_told (Some t) d u a n e h k = ap bytes_of k

pub within_told : (o : Perhaps (Bor (List ℕ))) (u : Bor (List ℕ)) (a : Perhaps Span) (n m : ℕ) → a ≡ option_and o (Some (record { start = n; len = length u.now })) → n + length u.now ≤ m → lies_within m a ≡ true
within_told None u a n m k h = ap (lies_within m) k
within_told (Some t) u a n m k h = ap (lies_within m) k ∙ le-leb (n + length u.now) m h

pub answer_told : (o : Perhaps (Bor (List ℕ))) (d u : Bor (List ℕ)) (a : Perhaps Span) (pool pool' : List ℕ) (ts ts' : List (Perhaps Span)) (n : ℕ) → d.now ≡ [] → u ≡ unwrap_or o d → a ≡ option_and o (Some (record { start = n; len = length u.now })) → n ≡ length pool → pool' ≡ pool ++ u.now → ts' ≡ ts ++ a ∷ [] → all_within (length pool) ts ≡ true → map (meant pool') ts' ≡ map (meant pool) ts ++ told o ∷ []
answer_told None d u a pool pool' ts ts' n e h k l p q w =
    let same : pool' ≡ pool = p ∙ ap (λ x. pool ++ x.now) h ∙ ap (λ x. pool ++ x) e ∙ append-nil pool in
    (λ j. map (meant (same j)) ((q ∙ ap (λ x. ts ++ x ∷ []) k) j)) ∙ map-append (meant pool) ts (None ∷ [])
answer_told (Some t) d u a pool pool' ts ts' n e h k l p q w =
    text_told pool pool' u.now ts ts' n l p (q ∙ ap (λ x. ts ++ x ∷ []) k) w ∙ ap (λ x. map (meant pool) ts ++ some x.now ∷ []) h

-- the bytes of answers
one_size : (pool : List ℕ) (t : Perhaps Span) → lies_within (length pool) t ≡ true → size (meant pool t) ≡ bytes_of t
one_size pool None e = refl
one_size pool (Some s) e = let l = leb-true (s.start + s.len) (length pool) e in simp (length-take, length-drop) (grind (arith, nat_tests))

pub all_sizes : (pool : List ℕ) (ts : List (Perhaps Span)) → all_within (length pool) ts ≡ true → sizes (map (meant pool) ts) ≡ told_bytes ts
all_sizes pool [] e = refl
all_sizes pool (t ∷ ts) e = let e2 = and_parts (lies_within (length pool) t) (all_within (length pool) ts) e in (λ j. one_size pool t e2.0 j + all_sizes pool ts e2.1 j)
