-- A function as it is written: its syntax tree. Assumes nothing.
use Rattle.std.specs.Prelude.{ℕ, suc, Bool, List}
use Rattle.values.specs.Values.{Name}
use Rattle.grammar.specs.Tokens.{Token}

-- Each expression begins with the index of its first token in its function. Parentheses leave no node.
-- A name stands as it is written, with the index of its token unless that is the expression's first.
mutual
  pub data Expr : Type 0 where
    -- a quoted text, escapes undone
    quoted : ℕ → List ℕ → Expr
    -- TRUE or FALSE
    constant : ℕ → Bool → Expr
    -- `.`
    dot : ℕ → Expr
    -- a parameter
    named : ℕ → List ℕ → Expr
    -- e / name
    pick : ℕ → Expr → ℕ → List ℕ → Expr
    -- e ! name
    has : ℕ → Expr → ℕ → List ℕ → Expr
    -- a == b
    equal : ℕ → Expr → Expr → Expr
    -- a + b
    plus : ℕ → Expr → Expr → Expr
    -- if c then a else b
    choose : ℕ → Expr → Expr → Expr → Expr
    -- [name = e, ..]
    bracket : ℕ → Parts → Expr
    -- f(e, ..)
    call : ℕ → List ℕ → Exprs → Expr
    -- _run_tool(text, command, tree), with the text's token
    tool : ℕ → ℕ → List ℕ → Expr → Expr → Expr

  -- expressions, the last outermost
  pub data Exprs : Type 0 where
    no_expr : Exprs
    and : Exprs → Expr → Exprs

  -- a bracket's parts, the last outermost: the name's token, the name, the expression
  pub data Parts : Type 0 where
    no_part : Parts
    part : Parts → ℕ → List ℕ → Expr → Parts

-- how many parts a bracket has
abbrev pub size : Parts → ℕ
size no_part = 0
size (part ps i w e) = suc (size ps)

-- how many expressions there are
abbrev pub number_of : Exprs → ℕ
number_of no_expr = 0
number_of (and es e) = suc (number_of es)

-- a parameter: the token of its name, the name, whether it is a key parameter
pub record Param : Type 0 where
  pub index : ℕ
  pub name : Name
  pub key : Bool

-- what `.` is set to in turn, and what is returned, with the index of the first token after `return`
pub record Function : Type 0 where
  pub name : Name
  pub params : List Param
  pub sets : Exprs
  pub first : ℕ
  pub returned : Expr

-- a function where it stands in a model: its syntax tree, its tokens and their places
pub record Source : Type 0 where
  pub syntax : Function
  pub tokens : List Token
  pub places : List ℕ
