-- Every reading of the grammar depends on its tokens alone. Assumes nothing.
use Rattle.std.proofs.Common.{ℕ, zero, suc, List, length}
use Rattle.values.specs.Values.{Name}
use Rattle.grammar.specs.Readers.{Reader}
use Rattle.grammar.specs.Syntax.{Expr, Exprs, Parts, size, Param}
use Rattle.grammar.specs.Grammar.{Start, text_start, truth_start, dot_start, tool_start, name_start, open_start, bracket_start, listed, arguments, one_part, parts, atom_from, atom, term, sum, expr_over, expr, one_param, params, one_set, function}
use Rattle.grammar.specs.Alone.{FunctionsStandAlone}
use Rattle.grammar.proofs.Local.{Local, local_bind, local_give, local_here, local_takes, local_skips, local_if, local_when, local_many, alone_bind, alone_takes}

module _ (inner : Reader Expr) (li : Local inner) where
  local_listed : Local (listed inner)
  unfolding listed
  local_listed = local_bind _ _ li (λ e. local_many _ _ (λ _ es. local_bind _ _ li (λ d. local_give _)) _)

  local_arguments : Local (arguments inner)
  unfolding arguments
  local_arguments = local_bind _ _ (local_skips 0 1 _) (λ t. local_if t _ _ (λ _. local_give _) (local_bind _ _ local_listed (λ es. local_bind _ _ (local_takes 0 1 _) (λ _. local_give _))))

  local_part : (ps : Parts) → Local (one_part inner ps)
  unfolding one_part
  local_part ps = local_bind _ _ local_here (λ i. local_bind _ _ (local_takes (size ps) 64 _) (λ w. local_bind _ _ (local_takes 0 1 _) (λ _. local_bind _ _ li (λ e. local_give _))))

  local_parts : Local (parts inner)
  unfolding parts
  local_parts =
      local_bind _ _ (local_skips 0 1 _)
      (λ t. local_if t _ _ (λ _. local_give _) (local_bind _ _ (local_part _) (λ p. local_bind _ _ (local_many _ _ (λ _. local_part) _) (λ ps. local_bind _ _ (local_takes 0 1 _) (λ _. local_give _)))))

  local_from : (i : ℕ) (s : Start) → Local (atom_from inner i s)
  unfolding atom_from
  local_from i (text_start r) = local_give _
  local_from i (truth_start b) = local_give _
  local_from i dot_start = local_give _
  local_from i tool_start =
      local_bind _ _ (local_takes 0 1 _) (λ _. local_bind _ _ local_here (λ j. local_bind _ _ (local_takes 0 1 _) (λ r. local_bind _ _ (local_takes 0 1 _)
      (λ _. local_bind _ _ li (λ c. local_bind _ _ (local_takes 0 1 _) (λ _. local_bind _ _ li (λ e. local_bind _ _ (local_takes 0 1 _) (λ _. local_give _))))))))
  local_from i (name_start w) = local_bind _ _ (local_skips 0 1 _) (λ t. local_if t _ _ (λ _. local_bind _ _ local_arguments (λ es. local_give _)) (local_give _))
  local_from i open_start = local_bind _ _ li (λ e. local_bind _ _ (local_takes 0 1 _) (λ _. local_give _))
  local_from i bracket_start = local_bind _ _ local_parts (λ ps. local_give _)

  local_atom : Local (atom inner)
  unfolding atom
  local_atom = local_bind _ _ local_here (λ i. local_bind _ _ (local_takes 0 1 _) (λ s. local_from i s))

  local_term : Local (term inner)
  unfolding term
  local_term = local_bind _ _ local_here (λ i. local_bind _ _ local_atom (λ e. local_many _ _ (λ b e. local_bind _ _ local_here (λ j. local_bind _ _ (local_takes 0 1 _) (λ w. local_give _))) _))

  local_sum : Local (sum inner)
  unfolding sum
  local_sum = local_bind _ _ local_here (λ i. local_bind _ _ local_term (λ e. local_many _ _ (λ _ e. local_bind _ _ local_term (λ d. local_give _)) _))

  local_over : Local (expr_over inner)
  unfolding expr_over
  local_over =
      local_bind _ _ local_here (λ i. local_bind _ _ (local_skips 0 1 _) (λ t. local_if t _ _
      (λ _. local_bind _ _ li (λ c. local_bind _ _ (local_takes 0 1 _) (λ _. local_bind _ _ li (λ a. local_bind _ _ (local_takes 0 1 _) (λ _. local_bind _ _ li (λ b. local_give _))))))
      (local_bind _ _ local_sum (λ a. local_bind _ _ (local_skips 0 1 _) (λ s. local_if s _ _ (λ _. local_bind _ _ local_sum (λ b. local_give _)) (local_give _))))))

pub local_expr : (n : ℕ) → Local (expr n)
unfolding expr
local_expr zero = local_takes 0 0 _
local_expr (suc n) = local_over (expr n) (local_expr n)

local_param : (ps : List Param) → Local (one_param ps)
unfolding one_param
local_param ps =
    local_bind _ _ local_here (λ i. local_bind _ _ (local_takes (length ps) 8 _) (λ w. local_when _ _ _
    (local_bind _ _ local_here (λ j. local_bind _ _ (local_skips 0 1 _) (λ v. local_if v _ _ (λ v. local_give _) (local_give _))))
    (local_give _)))

local_params : Local params
unfolding params
local_params =
    local_bind _ _ (local_skips 0 1 _)
    (λ t. local_if t _ _ (λ _. local_give _) (local_bind _ _ (local_param _) (λ p. local_bind _ _ (local_many _ _ (λ _. local_param) _) (λ ps. local_bind _ _ (local_takes 0 1 _) (λ _. local_give _)))))

local_set : (u : Unit {0}) (es : Exprs) → Local (one_set u es)
unfolding one_set
local_set u es = local_bind _ _ (local_takes 0 1 _) (λ _. local_bind _ _ (local_expr 16) (λ e. local_bind _ _ (local_takes 0 1 _) (λ _. local_give _)))

pub local_function : (w : Name) → Local (function w)
unfolding function
local_function w =
    local_bind _ _ (local_takes 0 1 _) (λ _. local_bind _ _ local_params (λ ps. local_bind _ _ (local_takes 0 1 _) (λ _. local_bind _ _ (local_many _ _ local_set _)
    (λ es. local_bind _ _ (local_takes 0 1 _) (λ _. local_bind _ _ local_here (λ i. local_bind _ _ (local_expr 16) (λ e. local_bind _ _ (local_takes 0 1 _)
    (λ _. local_bind _ _ (local_takes 0 1 _) (λ _. local_give _)))))))))

pub functions_stand_alone : FunctionsStandAlone
unfolding function
functions_stand_alone w =
    alone_bind _ _ (local_takes 0 1 _) (λ _. alone_bind _ _ local_params (λ ps. alone_bind _ _ (local_takes 0 1 _) (λ _. alone_bind _ _ (local_many _ _ local_set _)
    (λ es. alone_bind _ _ (local_takes 0 1 _) (λ _. alone_bind _ _ local_here (λ i. alone_bind _ _ (local_expr 16) (λ e. alone_bind _ _ (local_takes 0 1 _)
    (λ _. alone_takes 0 1 _ _))))))))
