-- A file read line by line. Assumes nothing.
use Rattle.std.proofs.Common.{◌≡◌, ℕ, ◌+◌, ◌-◌, ◌<◌, ◌≤◌, true, false, cond, leb, List, [], ◌∷◌, length, Some, None, sym, refl, ap, ◌∙◌, arith, Bor}
use mathlib.Core.Option.{Option, none, some}
use Rattle.std.proofs.lemmas.Bool.Decides.{nat_tests}
use Rattle.values.specs.Values.{Members, nil}
use Rattle.trees.specs.declared.parts.Parts.{Parts}
use Rattle.trees.specs.declared.progress.Progress.{Progress}
use Rattle.trees.specs.Lines.{Line, ok, bad}
use Rattle.trees.specs.Cuts.{Cuts}
use Rattle.trees.specs.Files.{split, line_of, File, done, refused, on_step, on_line, read_from, read_tree}
use Rattle.trees.specs.Following.{Follows, step_read}
use Rattle.trees.proofs.Splits.{split_some}
use Rattle.trees.proofs.Order.{parts_of, shorter}

-- what is left gives what the whole file gives
pub record Going (bs left : List ℕ) (kept : Progress) : Type 0 where
  pub so_far : Members
  pub follows : Follows so_far kept
  pub gives : read_from (length bs - length left) so_far (split 10 left) ≡ read_tree bs
  pub within : length left ≤ length bs

pub start : (bs : List ℕ) (kept : Progress) → length bs ≤ 32768 → Follows nil kept → Going bs bs kept
start bs kept l f =
    let zero : length bs - length bs ≡ 0 = omega arith in
    let short : true ≡ leb (length bs) 32768 = grind (arith, nat_tests) in
    record {
      so_far = nil;
      follows = f;
      gives = ap (λ n. read_from n nil (split 10 bs)) zero ∙ ap (λ b. cond b (read_from 0 nil (split 10 bs)) (refused 1 0)) short;
      within = omega arith;
    }

on_read : (at : ℕ) (o : Option Line) (ms : Members) (k : Members → File) → on_line at o ms k ≡ on_step at (step_read o ms) k
on_read at none ms k = refl
on_read at (some l) ms k = refl

line_read : (at : ℕ) (ms : Members) (l : List ℕ) (q : List ℕ) (qs ps : List (List ℕ)) → ps ≡ q ∷ qs → read_from at ms (l ∷ ps) ≡ on_step at (step_read (line_of l) ms) (λ ws. read_from (at + length l + 1) ws ps)
line_read at ms l q qs ps e =
    ap (λ r. read_from at ms (l ∷ r)) e ∙ on_read at (line_of l) ms (λ ws. read_from (at + length l + 1) ws (q ∷ qs)) ∙ ap (λ r. on_step at (step_read (line_of l) ms) (λ ws. read_from (at + length l + 1) ws r)) (sym e)

-- one line of what is left
one_line : (at : ℕ) (ms : Members) (left : List ℕ) (r : Parts) (s : Bor (List ℕ)) → Cuts 10 left r → r.rest ≡ Some s → read_from at ms (split 10 left) ≡ on_step at (step_read (line_of r.first.now) ms) (λ ws. read_from (at + length r.first.now + 1) ws (split 10 s.now))
one_line at ms left r s c e =
    let q = split_some 10 s.now in
    ap (read_from at ms) (parts_of 10 left r (Some s) c e) ∙ line_read at ms r.first.now q.0 q.1 (split 10 s.now) q.2

pub goes_on : (bs left : List ℕ) (kept next : Progress) (r : Parts) (s : Bor (List ℕ)) (g : Going bs left kept) → Cuts 10 left r → r.rest ≡ Some s → ((ws : Members) × (step_read (line_of r.first.now) g.so_far ≡ ok ws) × Follows ws next) → Going bs s.now next
goes_on bs left kept next r s g c e (ws, t, f) =
    let at = length bs - length left in
    let l = shorter 10 left r s c e in
    let w = g.within in
    let place : length bs - length s.now ≡ at + length r.first.now + 1 = omega arith in
    record {
      so_far = ws;
      follows = f;
      gives = ap (λ n. read_from n ws (split 10 s.now)) place ∙ ap (λ x. on_step at x (λ us. read_from (at + length r.first.now + 1) us (split 10 s.now))) (sym t) ∙ sym (one_line at g.so_far left r s c e) ∙ g.gives;
      within = omega arith;
    }

pub stops : (bs left : List ℕ) (kept : Progress) (r : Parts) (s : Bor (List ℕ)) (n : ℕ) (g : Going bs left kept) → Cuts 10 left r → r.rest ≡ Some s → step_read (line_of r.first.now) g.so_far ≡ bad n → read_tree bs ≡ refused n (length bs - length left)
stops bs left kept r s n g c e t =
    let at = length bs - length left in
    sym g.gives ∙ one_line at g.so_far left r s c e ∙ ap (λ x. on_step at x (λ us. read_from (at + length r.first.now + 1) us (split 10 s.now))) t

pub ends : (bs left : List ℕ) (kept : Progress) (r : Parts) (g : Going bs left kept) → Cuts 10 left r → r.rest ≡ None → length r.first.now ≡ 0 → read_tree bs ≡ done g.so_far
ends bs left kept r g c e z =
    sym g.gives ∙ ap (read_from (length bs - length left) g.so_far) (parts_of 10 left r None c e) ∙ empty r.first.now z
  where
    empty : (l : List ℕ) → length l ≡ 0 → read_from (length bs - length left) g.so_far (l ∷ []) ≡ done g.so_far
    empty [] z = refl
    empty (b ∷ l) z = absurd (omega arith)

pub unended : (bs left : List ℕ) (kept : Progress) (r : Parts) (g : Going bs left kept) → Cuts 10 left r → r.rest ≡ None → (length r.first.now ≡ 0 → ⊥) → read_tree bs ≡ refused 8 (length bs - length left)
unended bs left kept r g c e z =
    sym g.gives ∙ ap (read_from (length bs - length left) g.so_far) (parts_of 10 left r None c e) ∙ some_there r.first.now z
  where
    some_there : (l : List ℕ) → (length l ≡ 0 → ⊥) → read_from (length bs - length left) g.so_far (l ∷ []) ≡ refused 8 (length bs - length left)
    some_there [] z = absurd (z refl)
    some_there (b ∷ l) z = refl
