-- One name of a path after the other. Assumes nothing.
use Rattle.std.proofs.Common.{◌≡◌, ℕ, ◌+◌, ◌<◌, List, [], ◌∷◌, ◌++◌, map, length, drop, Some, None, Option as Answer, ControlFlow, sym, refl, ap, ◌∙◌, subst, append-nil, arith, Bor}
use mathlib.Core.Option.{Option, none, some}
use Rattle.std.specs.Fn.{Called}
use Rattle.std.specs.List.{FoldsTo}
use Rattle.std.specs.Option.{MatchOption}
use Rattle.std.specs.ControlFlow.{continue_value}
use Rattle.std.specs.Iterator.{TryFoldTurn, TryFoldsItems}
use Rattle.std.proofs.lemmas.List.{take-append-drop, drop_more}
use Rattle.std.proofs.lemmas.Iterator.{YieldsList}
use Rattle.std.proofs.lemmas.Iterator.Consumers.{YieldsList-so_far, YieldsList-turn, YieldsList-end}
use denote.Param.Members.{Mut}
use Rattle.values.specs.Values.{Name, Value, nth, and_then, child}
use Rattle.values.specs.Table.{Numbered}
use Rattle.lookup.specs.Finds.{looked}

one_name : (o : Option Value) (n : Name) (p : List Name) → looked o (n ∷ p) ≡ looked (and_then o (child n)) p
one_name none n p = refl
one_name (some v) n p = refl

at_end : (o : Option Value) → looked o [] ≡ o
at_end none = refl
at_end (some v) = refl

-- the names passed lead from one number to the other
record Leads (T : List Value) (xs : List (Bor Name)) (from to : ℕ) : Type 0 where
  follows : (rest : List Name) → looked (nth T from) (map (λ x. x.now) xs ++ rest) ≡ looked (nth T to) rest
  arrives : 0 < length xs → to < length T
  stays : from < length T → to < length T

-- a fold over the names, each call of which looks one up
module _ {F : Type 0} (T : List Value) (g : Mut F (ℕ × (Bor Name × Unit {0})) (Answer ℕ)) (f : F) where
  abbrev Looks : Type 0
  Looks = (at : ℕ) (x : Bor Name) (v : Answer ℕ) (h : F) → Called g f (at, (x, tt)) v h → (h ≡ f) × Numbered T (and_then (nth T at) (child x.now)) v

  leads : (E : Type 0) → Looks → (xs : List (Bor Name)) (from to : ℕ) (h : F) → FoldsTo {P = F × ℕ} (TryFoldTurn g (λ v (r : ControlFlow E ℕ). v ≡ continue_value r)) (f, from) xs (h, to) → (h ≡ f) × Leads T xs from to
  leads E looks [] from to h e = (ap (λ p. p.0) (sym e), record { follows = λ rest. ap (λ p. looked (nth T p.1) rest) e; arrives = λ l. absurd (omega arith); stays = λ l. subst (λ p. p.1 < length T) e l })
  leads E looks (x ∷ xs) from to h (j, (v, called, went), on) =
      let look = looks from x v j.0 called in
      let next : Numbered T (and_then (nth T from) (child x.now)) (Some j.1) = subst (Numbered T (and_then (nth T from) (child x.now))) went look.1 in
      let more = leads E looks xs j.1 to h (subst (λ k. FoldsTo {P = F × ℕ} (TryFoldTurn g (λ v (r : ControlFlow E ℕ). v ≡ continue_value r)) (k, j.1) xs (h, to)) look.0 on) in (
        more.0,
        record {
          follows = λ rest. one_name (nth T from) x.now (map (λ x. x.now) xs ++ rest) ∙ ap (λ o. looked o (map (λ x. x.now) xs ++ rest)) (sym next.0) ∙ more.1.follows rest;
          arrives = λ l. more.1.stays next.1;
          stays = λ l. more.1.stays next.1;
        },
      )

-- what the fold answers; each name is looked up in what the ones before it led to, and the first that is not there ends it
pub found : {F E S : Type 0} (T : List Value) {g : Mut F (ℕ × (Bor Name × Unit {0})) (Answer ℕ)} {f : F}
    {steps : S → Answer (Bor Name) → S → Type 0} {s : S} (u : S) {names : List Name} (root : ℕ) (r : Answer ℕ) → TryFoldsItems steps g (λ v (q : ControlFlow E ℕ). v ≡ continue_value q) (λ (_ : E) q. q ≡ None) s f root r u → YieldsList steps (λ x. x.now) s names → 0 < length names
    → Looks T g f → Numbered T (looked (nth T root) names) r
found {F} {E} {S} T {g} {f} {steps} {s} u {names} root r (xs, o, h, at, (t, y, last), folds, result) road some_there looks = go o last result
  where
    go : (o : Answer (Bor Name)) → steps t o u → MatchOption o (r ≡ Some at) (λ x. (v : Answer ℕ) × (k : F) × (e : E) × Called g h (at, (x, tt)) v k × (v ≡ None) × (r ≡ None)) → Numbered T (looked (nth T root) names) r
    go None end went =
        let l = leads T g f E looks xs root at h folds in
        let all = YieldsList-end road xs t y None u refl end in
        let is : nth T at ≡ looked (nth T root) names = sym (ap (looked (nth T root)) (sym all.0 ∙ sym (append-nil (map (λ x. x.now) xs))) ∙ l.1.follows [] ∙ at_end (nth T at)) in
        subst (Numbered T (looked (nth T root) names)) (sym went) (is, l.1.arrives (omega (arith, all.1)))
    go (Some x) end (v, k, e, called, broke, back) =
        let l = leads T g f E looks xs root at h folds in
        let n = length xs in
        let look = looks at x v k (subst (λ q. Called g q (at, (x, tt)) v k) l.0 called) in
        let nothing : and_then (nth T at) (child x.now) ≡ none = subst (Numbered T (and_then (nth T at) (child x.now))) broke look.1 in
        let turn = YieldsList-turn road xs t y (Some x) u x refl end in
        let parts : names ≡ map (λ x. x.now) xs ++ x.now ∷ drop (n + 1) names = sym (take-append-drop n names) ∙ (λ j. sym (YieldsList-so_far road xs t y) j ++ (drop_more names n x.now turn.0 ∙ ap (λ w. w ∷ drop (n + 1) names) (sym turn.1)) j) in
        let is : looked (nth T root) names ≡ none = ap (looked (nth T root)) parts ∙ l.1.follows (x.now ∷ drop (n + 1) names) ∙ one_name (nth T at) x.now (drop (n + 1) names) ∙ ap (λ o. looked o (drop (n + 1) names)) nothing in
        subst (Numbered T (looked (nth T root) names)) (sym back) is
