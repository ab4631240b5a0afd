-- The numbers of flaws, and the first of them. Assumes nothing.
use Rattle.std.proofs.Common.{◌≡◌, ℕ, zero, suc, ◌≤◌, Bool, true, false, cond, not, ◌&&◌, List, [], ◌∷◌, ◌++◌, map, refl, ap, ◌∙◌, subst, arith}
use mathlib.Core.Option.{Option, none, some}
use Rattle.std.proofs.lemmas.Bool.Decides.{nat_tests}
use Rattle.values.specs.Values.{Name, nth}
use Rattle.grammar.specs.Words.{callable}
use Rattle.grammar.specs.Tokens.{is_some}
use Rattle.grammar.specs.Syntax.{Expr, quoted, constant, dot, named, pick, has, equal, plus, choose, bracket, call, tool, Exprs, no_expr, and, Parts, no_part, part, number_of, Param, Function, Source}
use Rattle.grammar.specs.Checks.{Flaw, unless, find, call_flaws, expr_flaws, all_flaws, part_flaws, param_flaws, starts, function_flaws, at_place, flaws_behind, flaws, before, earliest, first_flaw}
use Rattle.grammar.specs.Laws.{before_all, EarliestIsTold}

-- every number is 5, 6 or 7
abbrev pub Fair : List Flaw → Type 0
Fair [] = Unit {0}
Fair (x ∷ xs) = (5 ≤ x.number) × (x.number ≤ 7) × Fair xs

fair_unless : (b : Bool) (i n : ℕ) → 5 ≤ n → n ≤ 7 → Fair (unless b i n)
fair_unless true i n h k = tt
fair_unless false i n h k = (h, k, tt)

five : (b : Bool) (i : ℕ) → Fair (unless b i 5)
five b i = fair_unless b i 5 (omega arith) (omega arith)

six : (b : Bool) (i : ℕ) → Fair (unless b i 6)
six b i = fair_unless b i 6 (omega arith) (omega arith)

seven : (b : Bool) (i : ℕ) → Fair (unless b i 7)
seven b i = fair_unless b i 7 (omega arith) (omega arith)

fair_both : (xs ys : List Flaw) → Fair xs → Fair ys → Fair (xs ++ ys)
fair_both [] ys h k = k
fair_both (x ∷ xs) ys h k = (h.0, h.1, fair_both xs ys h.2 k)

fair_call : (i : ℕ) (f : Option Function) (n : ℕ) → Fair (call_flaws i f n)
fair_call i none n = six false i
fair_call i (some f) n = seven _ i

module _ (known : Name → Bool) (fs : List Source) (params : List Param) where
  mutual
    fair_expr : (e : Expr) → Fair (expr_flaws known fs params e)
    fair_expr (quoted i t) = tt
    fair_expr (constant i b) = tt
    fair_expr (dot i) = tt
    fair_expr (named i w) = six _ i
    fair_expr (pick i e j w) = fair_both _ _ (fair_expr e) (five _ j)
    fair_expr (has i e j w) = fair_both _ _ (fair_expr e) (five _ j)
    fair_expr (equal i a b) = fair_both _ _ (fair_expr a) (fair_expr b)
    fair_expr (plus i a b) = fair_both _ _ (fair_expr a) (fair_expr b)
    fair_expr (choose i c a b) = fair_both _ _ (fair_expr c) (fair_both _ _ (fair_expr a) (fair_expr b))
    fair_expr (bracket i ps) = fair_parts ps
    fair_expr (call i w es) = fair_both _ _ (fair_call i (find w fs) (number_of es)) (fair_all es)
    fair_expr (tool i j t c r) = fair_both _ _ (six (known t) j) (fair_both _ _ (fair_expr c) (fair_expr r))

    fair_all : (es : Exprs) → Fair (all_flaws known fs params es)
    fair_all no_expr = tt
    fair_all (and es e) = fair_both _ _ (fair_all es) (fair_expr e)

    fair_parts : (ps : Parts) → Fair (part_flaws known fs params ps)
    fair_parts no_part = tt
    fair_parts (part ps i w e) = fair_both _ _ (fair_parts ps) (fair_both _ _ (five _ i) (fair_expr e))

fair_params : (qs ps : List Param) → Fair (param_flaws qs ps)
fair_params qs [] = tt
fair_params qs (p ∷ ps) = fair_both _ _ (five _ p.index) (fair_params (p ∷ qs) ps)

fair_function : (known : Name → Bool) (fs gs : List Source) (f : Function) → Fair (function_flaws known fs gs f)
fair_function known fs gs f =
    let body = all_flaws known fs f.params f.sets ++ expr_flaws known fs f.params f.returned in
    let inner = param_flaws [] f.params ++ body in
    let free = callable f.name && not (is_some (find f.name gs)) in
    fair_both (unless free 0 5) (unless (starts f) 0 7 ++ inner) (five free 0)
    (fair_both (unless (starts f) 0 7) inner (seven (starts f) 0)
    (fair_both (param_flaws [] f.params) body (fair_params [] f.params)
    (fair_both (all_flaws known fs f.params f.sets) (expr_flaws known fs f.params f.returned) (fair_all known fs f.params f.sets) (fair_expr known fs f.params f.returned))))

fair_placed : (ps : List ℕ) (xs : List Flaw) → Fair xs → Fair (map (at_place ps) xs)
fair_placed ps [] h = tt
fair_placed ps (x ∷ xs) h = (h.0, h.1, fair_placed ps xs h.2)

fair_behind : (known : Name → Bool) (all gs fs : List Source) → Fair (flaws_behind known all gs fs)
fair_behind known all gs [] = tt
fair_behind known all gs (f ∷ fs) =
    fair_both _ _ (fair_placed f.places (function_flaws known all gs f.syntax) (fair_function known all gs f.syntax)) (fair_behind known all (f ∷ gs) fs)

pub fair_flaws : (known : Name → Bool) (n : ℕ) (fs : List Source) → Fair (flaws known n fs)
fair_flaws known n fs = fair_both _ _ (fair_behind known fs [] fs) (six _ n)

fair_earliest : (x : Flaw) (xs : List Flaw) → 5 ≤ x.number → x.number ≤ 7 → Fair xs → (5 ≤ (earliest x xs).number) × ((earliest x xs).number ≤ 7)
fair_earliest x [] h k f = (h, k)
fair_earliest x (y ∷ ys) h k f = go (before x y) (fair_earliest x ys h k f.2) (fair_earliest y ys f.0 f.1 f.2)
  where
    go : (b : Bool) → (5 ≤ (earliest x ys).number) × ((earliest x ys).number ≤ 7) → (5 ≤ (earliest y ys).number) × ((earliest y ys).number ≤ 7)
        → (5 ≤ (earliest (cond b x y) ys).number) × ((earliest (cond b x y) ys).number ≤ 7)
    go true s t = s
    go false s t = t

pub fair_first : (xs : List Flaw) (x : Flaw) → Fair xs → first_flaw xs ≡ some x → (5 ≤ x.number) × (x.number ≤ 7)
fair_first [] x f e = let z : ◌≡◌ {A = ℕ} 0 1 = cc in absurd (omega arith)
fair_first (y ∷ ys) x f e =
    let g : earliest y ys ≡ x = cc in
    let h = fair_earliest y ys f.0 f.1 f.2 in
    let k : (earliest y ys).number ≡ x.number = ap (λ z. z.number) g in
    (omega (arith, h.0), omega (arith, h.1))

-- the order of flaws
whole : (x y : Flaw) → before x y ≡ false → before y x ≡ true
whole x y e = grind (arith, nat_tests)

across : (x y z : Flaw) → before x y ≡ true → before y z ≡ true → before x z ≡ true
across x y z e f = grind (arith, nat_tests)

itself : (x : Flaw) → before x x ≡ true
itself x = grind (arith, nat_tests)

and_true : (a b : Bool) → a ≡ true → b ≡ true → (a && b) ≡ true
and_true a b e f = ap (λ a. a && b) e ∙ f

least : (x : Flaw) (xs : List Flaw) → (before (earliest x xs) x ≡ true) × (before_all (earliest x xs) xs ≡ true)
least x [] = (itself x, refl)
least x (y ∷ ys) = go (before x y) refl (least x ys) (least y ys)
  where
    go : (b : Bool) → before x y ≡ b → (before (earliest x ys) x ≡ true) × (before_all (earliest x ys) ys ≡ true) → (before (earliest y ys) y ≡ true) × (before_all (earliest y ys) ys ≡ true)
        → (before (earliest (cond b x y) ys) x ≡ true) × ((before (earliest (cond b x y) ys) y && before_all (earliest (cond b x y) ys) ys) ≡ true)
    go true e s t = (s.0, and_true (before (earliest x ys) y) (before_all (earliest x ys) ys) (across (earliest x ys) x y s.0 e) s.1)
    go false e s t = (across (earliest y ys) y x t.0 (whole x y e), and_true (before (earliest y ys) y) (before_all (earliest y ys) ys) t.0 t.1)

among : (x : Flaw) (xs : List Flaw) → (i : ℕ) × (nth (x ∷ xs) i ≡ some (earliest x xs))
among x [] = (0, refl)
among x (y ∷ ys) = go (before x y) (among x ys) (among y ys)
  where
    later : (i : ℕ) → nth (x ∷ ys) i ≡ some (earliest x ys) → (j : ℕ) × (nth (x ∷ y ∷ ys) j ≡ some (earliest x ys))
    later zero e = (0, e)
    later (suc i) e = (suc (suc i), e)

    go : (b : Bool) → (i : ℕ) × (nth (x ∷ ys) i ≡ some (earliest x ys)) → (i : ℕ) × (nth (y ∷ ys) i ≡ some (earliest y ys)) → (i : ℕ) × (nth (x ∷ y ∷ ys) i ≡ some (earliest (cond b x y) ys))
    go true s t = later s.0 s.1
    go false s t = (suc t.0, t.1)

pub earliest_is_told : EarliestIsTold
earliest_is_told [] x e = let z : ◌≡◌ {A = ℕ} 0 1 = cc in absurd (omega arith)
earliest_is_told (y ∷ ys) x e =
    let g : earliest y ys ≡ x = cc in
    let l = least y ys in
    subst (λ x. ((i : ℕ) × (nth (y ∷ ys) i ≡ some x)) × (before_all x (y ∷ ys) ≡ true)) g
    (among y ys, and_true (before (earliest y ys) y) (before_all (earliest y ys) ys) l.0 l.1)
