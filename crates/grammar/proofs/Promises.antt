-- Functions and their texts; the numbers of refusals. Assumes nothing.
use Rattle.std.proofs.Common.{◌≡◌, ℕ, zero, suc, ◌≤◌, Bool, true, false, cond, leb, List, [], ◌∷◌, length, sym, refl, ap, ◌∙◌, subst, arith}
use mathlib.Core.Option.{Option, none, some}
use Rattle.values.specs.Values.{Name, nth}
use Rattle.grammar.specs.Tokens.{Token, word, Tokens, end, next}
use Rattle.grammar.specs.Readers.{Stand, Outcome, ok, no}
use Rattle.grammar.specs.Syntax.{Source, Function}
use Rattle.grammar.specs.Grammar.{function, reads}
use Rattle.grammar.specs.Alone.{Carries, put}
use Rattle.grammar.specs.Checks.{Flaw, flaws, first_flaw}
use Rattle.grammar.specs.Models.{refused, accepted, unflawed, checked, read_model}
use Rattle.grammar.specs.Laws.{FunctionOf, TextsTellTokens, TextsTellFunctions, TextsAreShort, RefusalsAreNumbered}
use Rattle.grammar.proofs.Local.{clash}
use Rattle.grammar.proofs.Joins.{text_tells, text_determines, cut_real}
use Rattle.grammar.proofs.Sources.{begun, Sound, AllSound, Good, reads_good}
use Rattle.grammar.proofs.Flaws.{fair_flaws, fair_first}

pub texts_tell_tokens : TextsTellTokens
texts_tell_tokens = record { cut_again = λ ts h. text_tells ts 0 h; determined = text_determines; real = λ bytes. cut_real 0 0 bytes }

accepted_sound : (known : Name → Bool) (n : ℕ) (b : Bool) (o : Outcome (List Source)) (fs : List Source) → Good o → cond b (checked known n o) (refused 1 0) ≡ accepted fs → AllSound fs
accepted_sound known n true (ok gs s) fs g e = go (first_flaw (flaws known n gs)) e
  where
    go : (x : Option Flaw) → unflawed gs x ≡ accepted fs → AllSound fs
    go none e = let h : gs ≡ fs = cc in subst AllSound h g
    go (some x) e = clash (cc)
accepted_sound known n true (no m p) fs g e = clash (cc)
accepted_sound known n false o fs g e = clash (cc)

sound_nth : (fs : List Source) (i : ℕ) (f : Source) → AllSound fs → nth fs i ≡ some f → Sound f
sound_nth [] i f a e = clash (cc)
sound_nth (g ∷ fs) zero f a e = let h : g ≡ f = cc in subst Sound h a.0
sound_nth (g ∷ fs) (suc i) f a e = sound_nth fs i f a.1 e

function_sound : (known : Name → Bool) (m : List ℕ) (f : Source) → FunctionOf known m f → Sound f
unfolding read_model
function_sound known m f h = sound_nth h.0 h.1 f (accepted_sound known (length m) (leb (length m) 8192) (reads m) h.0 (reads_good m) h.2) h.3

pub texts_are_short : TextsAreShort
texts_are_short known m f h = (function_sound known m f h).short

-- the tokens by themselves
abbrev alone : List Token → Tokens
alone [] = end 0
alone (t ∷ ts) = next 0 t (alone ts)

carries_alone : (ts : List Token) → Carries (alone ts) ts (end 0)
carries_alone [] = refl
carries_alone (t ∷ ts) = (refl, carries_alone ts)

same_syntax : (f g : Source) → Sound f → Sound g → f.tokens ≡ g.tokens → f.syntax ≡ g.syntax
same_syntax f g x y e =
    let z : word x.name ∷ x.used ≡ word y.name ∷ y.used = sym x.is ∙ e ∙ y.is in
    let n : x.name ≡ y.name = cc in
    let u : x.used ≡ y.used = cc in
    let a : function x.name (begun x.name (alone x.used)) ≡ ok f.syntax (put x.behind (end 0)) = x.again (alone x.used) (end 0) (carries_alone x.used) in
    let b : function y.name (begun y.name (alone y.used)) ≡ ok g.syntax (put y.behind (end 0)) = y.again (alone y.used) (end 0) (carries_alone y.used) in
    let k : function x.name (begun x.name (alone x.used)) ≡ function y.name (begun y.name (alone y.used)) = ap (λ w. function w (begun w (alone x.used))) n ∙ ap (λ v. function y.name (begun y.name (alone v))) u in
    one f.syntax g.syntax (put x.behind (end 0)) (put y.behind (end 0)) (sym a ∙ k ∙ b)
  where
    one : (a b : Function) (s t : Stand) → ok a s ≡ ok b t → a ≡ b
    one a b s t e = cc

pub texts_tell_functions : TextsTellFunctions
texts_tell_functions known others m k f g h l e =
    let x = function_sound known m f h in
    let y = function_sound others k g l in
    same_syntax f g x y (text_determines f.tokens g.tokens x.real y.real e)

numbered : (known : Name → Bool) (n : ℕ) (b : Bool) (o : Outcome (List Source)) (m p : ℕ) → Good o → cond b (checked known n o) (refused 1 0) ≡ refused m p → (1 ≤ m) × (m ≤ 7)
numbered known n true (ok gs s) m p g e = go (first_flaw (flaws known n gs)) refl e
  where
    go : (x : Option Flaw) → first_flaw (flaws known n gs) ≡ x → unflawed gs x ≡ refused m p → (1 ≤ m) × (m ≤ 7)
    go none k e = clash (cc)
    go (some x) k e =
        let h : x.number ≡ m = cc in
        let r = fair_first (flaws known n gs) x (fair_flaws known n gs) k in
        (omega (arith, r.0), omega (arith, r.1))
numbered known n true (no l q) m p g e = let h : l ≡ m = cc in (omega (arith, g.0), omega (arith, g.1))
numbered known n false o m p g e = let h : ◌≡◌ {A = ℕ} 1 m = cc in (omega arith, omega arith)

pub refusals_are_numbered : RefusalsAreNumbered
unfolding read_model
refusals_are_numbered known m n p e = numbered known (length m) (leb (length m) 8192) (reads m) n p (reads_good m) e
