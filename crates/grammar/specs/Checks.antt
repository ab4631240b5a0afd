-- What the names of a model break once its functions are read: 5, 6 and 7, each with its place. Assumes nothing.
use Rattle.std.specs.Prelude.{ℕ, Bool, false, cond, not, ◌&&◌, ◌||◌, List, [], ◌∷◌, ◌++◌, map, length, codes, ◌==◌, nat_le, nat_lt, slice_index}
use Rattle.std.proofs.Math.Option.{Option, none, some}
use Rattle.values.specs.Values.{Name, same_name}
use Rattle.values.specs.Limits.{fit}
use Rattle.grammar.specs.Words.{callable}
use Rattle.grammar.specs.Tokens.{is_some}
use Rattle.grammar.specs.Syntax.{Expr, quoted, constant, dot, named, pick, has, equal, plus, choose, bracket, call, tool, Exprs, no_expr, and, Parts, no_part, part, number_of, Param, Function, Source}

-- a rule that is broken: its number, and where; inside a function, the index of a token, and in a model, a place
pub record Flaw : Type 0 where
  pub at : ℕ
  pub number : ℕ

-- a rule that holds leaves no flaw
abbrev pub unless : Bool → ℕ → ℕ → List Flaw
unless holds i n = cond holds [] (record { at = i; number = n } ∷ [])

-- whether a parameter has this name
abbrev pub has_param : Name → List Param → Bool
has_param w [] = false
has_param w (p ∷ ps) = same_name w p.name || has_param w ps

-- whether a part of a bracket has it
abbrev pub has_part : Name → Parts → Bool
has_part w no_part = false
has_part w (part ps i v e) = same_name w v || has_part w ps

-- the first function of this name
abbrev pub find : Name → List Source → Option Function
find w [] = none
find w (f ∷ fs) = cond (same_name w f.syntax.name) (some f.syntax) (find w fs)

-- a call of a function with n arguments, at this token: 6 if there is no such function, 7 if it has another number of parameters
abbrev pub call_flaws : ℕ → Option Function → ℕ → List Flaw
call_flaws i none n = unless false i 6
call_flaws i (some f) n = unless (length f.params == n) i 7

-- Expressions of a function with these parameters, in a model of these functions; `known` says which tools there are.
module _ (known : Name → Bool) (fs : List Source) (params : List Param) where
  abbrev mutual
    pub expr_flaws : Expr → List Flaw
    expr_flaws (quoted i t) = []
    expr_flaws (constant i b) = []
    expr_flaws (dot i) = []
    expr_flaws (named i w) = unless (has_param w params) i 6
    expr_flaws (pick i e j w) = expr_flaws e ++ unless (fit w) j 5
    expr_flaws (has i e j w) = expr_flaws e ++ unless (fit w) j 5
    expr_flaws (equal i a b) = expr_flaws a ++ expr_flaws b
    expr_flaws (plus i a b) = expr_flaws a ++ expr_flaws b
    expr_flaws (choose i c a b) = expr_flaws c ++ (expr_flaws a ++ expr_flaws b)
    expr_flaws (bracket i ps) = part_flaws ps
    expr_flaws (call i w es) = call_flaws i (find w fs) (number_of es) ++ all_flaws es
    expr_flaws (tool i j t c r) = unless (known t) j 6 ++ (expr_flaws c ++ expr_flaws r)

    pub all_flaws : Exprs → List Flaw
    all_flaws no_expr = []
    all_flaws (and es e) = all_flaws es ++ expr_flaws e

    -- a part's name is fit, and no part before it has the same
    pub part_flaws : Parts → List Flaw
    part_flaws no_part = []
    part_flaws (part ps i w e) = part_flaws ps ++ (unless (fit w && not (has_part w ps)) i 5 ++ expr_flaws e)

-- a parameter may have its name, and none of those before it has the same
abbrev pub param_flaws : List Param → List Param → List Flaw
param_flaws before [] = []
param_flaws before (p ∷ ps) = unless (callable p.name && not (has_param p.name before)) p.index 5 ++ param_flaws (p ∷ before) ps

-- whether a function takes no parameters, if it is `main`
abbrev pub starts : Function → Bool
starts f = not (same_name f.name (codes "main")) || length f.params == 0

-- a function may have its name, which is its token 0, and none of those before it has the same; `main` has no parameters
abbrev pub function_flaws : (Name → Bool) → List Source → List Source → Function → List Flaw
function_flaws known fs before f =
    unless (callable f.name && not (is_some (find f.name before))) 0 5
    ++ (unless (starts f) 0 7
    ++ (param_flaws [] f.params
    ++ (all_flaws known fs f.params f.sets ++ expr_flaws known fs f.params f.returned)))

-- a flaw at a token of a function, at that token's place
abbrev pub at_place : List ℕ → Flaw → Flaw
at_place places x = record { at = slice_index places x.at; number = x.number }

-- the flaws of functions that stand behind others
abbrev pub flaws_behind : (Name → Bool) → List Source → List Source → List Source → List Flaw
flaws_behind known all before [] = []
flaws_behind known all before (f ∷ fs) =
    map (at_place f.places) (function_flaws known all before f.syntax) ++ flaws_behind known all (f ∷ before) fs

-- all flaws of a model of so many bytes; that `main` is missing shows at its end
abbrev pub flaws : (Name → Bool) → ℕ → List Source → List Flaw
flaws known n fs = flaws_behind known fs [] fs ++ unless (is_some (find (codes "main") fs)) n 6

-- the earlier place goes first, and at one place the lower number
abbrev pub before : Flaw → Flaw → Bool
before x y = nat_lt x.at y.at || (x.at == y.at && nat_le x.number y.number)

-- the first of a flaw and others
abbrev pub earliest : Flaw → List Flaw → Flaw
earliest x [] = x
earliest x (y ∷ ys) = earliest (cond (before x y) x y) ys

-- the first of some flaws, if there are any
abbrev pub first_flaw : List Flaw → Option Flaw
first_flaw [] = none
first_flaw (x ∷ xs) = some (earliest x xs)
