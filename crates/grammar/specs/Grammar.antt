-- The grammar: which functions the tokens of a model are, or the refusal 2, 3 or 4. One reader for each line. Assumes nothing.
-- Signs by their numbers: ! 33, ( 40, ) 41, + 43, comma 44, / 47, ; 59, = 61, [ 91, ] 93, { 123, } 125.
use Rattle.std.specs.Prelude.{ℕ, zero, suc, Bool, true, false, cond, List, [], ◌∷◌, ◌++◌, length, take, codes, ◌==◌}
use Rattle.std.proofs.Math.Option.{Option, none, some}
use Rattle.values.specs.Values.{Name, same_name}
use Rattle.grammar.specs.Words.{reserved}
use Rattle.grammar.specs.Tokens.{Token, word, text, same, sign, value, Tokens, tokens_of, bare, places}
use Rattle.grammar.specs.Readers.{fresh, Outcome, Reader, ◌>>=◌, ◌>>◌, give, when, here, left, takes, takes_of, skips, skips_of, if_some, many, ends, afresh}
use Rattle.grammar.specs.Syntax.{Expr, quoted, constant, dot, named, pick, has, equal, plus, choose, bracket, call, tool, Exprs, no_expr, and, Parts, no_part, part, size, Param, Function, Source}

-- Kinds of tokens.

-- something if a test holds
abbrev pub if_so : Bool → Option (Unit {0})
if_so b = cond b (some tt) none

-- this sign
abbrev pub a_sign : ℕ → Token → Option (Unit {0})
a_sign b (word w) = none
a_sign b (text r) = none
a_sign b same = none
a_sign b (sign a) = if_so (a == b)

-- `==`
abbrev pub a_same : Token → Option (Unit {0})
a_same (word w) = none
a_same (text r) = none
a_same same = some tt
a_same (sign b) = none

-- any word
abbrev pub a_word : Token → Option Name
a_word (word w) = some w
a_word (text r) = none
a_word same = none
a_word (sign b) = none

-- a quoted text
abbrev pub a_text : Token → Option (List ℕ)
a_text (word w) = none
a_text (text r) = some r
a_text same = none
a_text (sign b) = none

-- this word
abbrev pub the_word : Name → Token → Option (Unit {0})
the_word v (word w) = if_so (same_name w v)
the_word v (text r) = none
the_word v same = none
the_word v (sign b) = none

-- `/` (false) or `!` (true): a member is taken, or asked for
abbrev pub a_way : Token → Option Bool
a_way (word w) = none
a_way (text r) = none
a_way same = none
a_way (sign b) = cond (b == 47) (some false) (cond (b == 33) (some true) none)

-- what an atom may begin with
pub data Start : Type 0 where
  text_start : List ℕ → Start
  truth_start : Bool → Start
  dot_start : Start
  tool_start : Start
  name_start : List ℕ → Start
  open_start : Start
  bracket_start : Start

-- the beginning of an atom that a word is
abbrev pub start_of_word : Name → Option Start
start_of_word w =
    cond (same_name w (codes "TRUE")) (some (truth_start true))
    (cond (same_name w (codes "FALSE")) (some (truth_start false))
    (cond (same_name w (codes ".")) (some dot_start)
    (cond (same_name w (codes "_run_tool")) (some tool_start)
    (cond (reserved w) none (some (name_start w))))))

-- and that a token is
abbrev pub a_start : Token → Option Start
a_start (word w) = start_of_word w
a_start (text r) = some (text_start r)
a_start same = none
a_start (sign b) = cond (b == 40) (some open_start) (cond (b == 91) (some bracket_start) none)

-- a beginning of an atom, or else a test
abbrev pub or_if : Option Start → Bool → Option (Unit {0})
or_if none b = if_so b
or_if (some s) b = some tt

-- whether a token is `if`
abbrev pub is_if : Token → Bool
is_if (word w) = same_name w (codes "if")
is_if (text r) = false
is_if same = false
is_if (sign b) = false

-- what an expression may begin with: what an atom may, or `if`
abbrev pub a_beginning : Token → Option (Unit {0})
a_beginning t = or_if (a_start t) (is_if t)

-- Expressions. `inner` is an expression one level deeper.
module _ (inner : Reader Expr) where
  -- expr {"," expr}
  unfoldable pub listed : Reader Exprs
  listed = do
    e ← inner
    many (a_sign 44) (λ _ es. inner >>= (λ d. give (and es d))) (and no_expr e)

  -- past "(": [expr {"," expr}] ")"
  unfoldable pub arguments : Reader Exprs
  arguments = do
    t ← skips (a_sign 41)
    if_some t (λ _. give no_expr) (do
      es ← listed
      takes (a_sign 41)
      give es)

  -- word "=" expr; a 65th word in a bracket passes a limit
  unfoldable pub one_part : Parts → Reader Parts
  one_part ps = do
    i ← here
    w ← takes_of (size ps) 64 a_word
    takes (a_sign 61)
    e ← inner
    give (part ps i w e)

  -- past "[": [word "=" expr {"," word "=" expr}] "]"
  unfoldable pub parts : Reader Parts
  parts = do
    t ← skips (a_sign 93)
    if_some t (λ _. give no_part) (do
      p ← one_part no_part
      ps ← many (a_sign 44) (λ _. one_part) p
      takes (a_sign 93)
      give ps)

  -- past the first token of an atom, which had this index
  unfoldable pub atom_from : ℕ → Start → Reader Expr
  atom_from i (text_start r) = give (quoted i (value r))
  atom_from i (truth_start b) = give (constant i b)
  atom_from i dot_start = give (dot i)
  atom_from i tool_start = do
    takes (a_sign 40)
    j ← here
    r ← takes a_text
    takes (a_sign 44)
    c ← inner
    takes (a_sign 44)
    e ← inner
    takes (a_sign 41)
    give (tool i j (value r) c e)
  atom_from i (name_start w) = do
    t ← skips (a_sign 40)
    if_some t (λ _. arguments >>= (λ es. give (call i w es))) (give (named i w))
  atom_from i open_start = do
    e ← inner
    takes (a_sign 41)
    give e
  atom_from i bracket_start = parts >>= (λ ps. give (bracket i ps))

  -- text | "TRUE" | "FALSE" | "." | word | "(" expr ")" | "[" .. "]" | word "(" .. ")" | "_run_tool" "(" .. ")"
  unfoldable pub atom : Reader Expr
  atom = do
    i ← here
    s ← takes a_start
    atom_from i s

  -- atom {("/" | "!") word}
  unfoldable pub term : Reader Expr
  term = do
    i ← here
    e ← atom
    many a_way (λ asks e. do
      j ← here
      w ← takes a_word
      give (cond asks (has i e j w) (pick i e j w))) e

  -- term {"+" term}
  unfoldable pub sum : Reader Expr
  sum = do
    i ← here
    e ← term
    many (a_sign 43) (λ _ e. term >>= (λ d. give (plus i e d))) e

  -- "if" expr "then" expr "else" expr | sum ["==" sum]
  unfoldable pub expr_over : Reader Expr
  expr_over = do
    i ← here
    t ← skips (the_word (codes "if"))
    if_some t (λ _. do
      c ← inner
      takes (the_word (codes "then"))
      a ← inner
      takes (the_word (codes "else"))
      b ← inner
      give (choose i c a b)) (do
        a ← sum
        s ← skips a_same
        if_some s (λ _. sum >>= (λ b. give (equal i a b))) (give a))

-- no expression, where one might begin
abbrev no_level : Option (Unit {0}) → Option Expr
no_level none = none
no_level (some u) = some (dot 0)

-- an expression with so many levels left; past the last, a token that may begin one passes a limit
unfoldable pub expr : ℕ → Reader Expr
expr zero = takes_of 0 0 (λ t. no_level (a_beginning t))
expr (suc n) = expr_over (expr n)

-- one parameter more
abbrev pub with_param : List Param → ℕ → Name → Bool → List Param
with_param ps i w k = ps ++ record { index = i; name = w; key = k } ∷ []

-- ["key"] word; a 9th parameter passes a limit at its first token. `key` with no word behind it is a parameter of that name
unfoldable pub one_param : List Param → Reader (List Param)
one_param ps = do
  i ← here
  w ← takes_of (length ps) 8 a_word
  when (same_name w (codes "key")) (do
    j ← here
    v ← skips a_word
    if_some v (λ v. give (with_param ps j v true)) (give (with_param ps i w false)))
      (give (with_param ps i w false))

-- past "(": [param {"," param}] ")"
unfoldable pub params : Reader (List Param)
params = do
  t ← skips (a_sign 41)
  if_some t (λ _. give []) (do
    p ← one_param []
    ps ← many (a_sign 44) (λ _. one_param) p
    takes (a_sign 41)
    give ps)

-- past "." in {"." "=" expr ";"}
unfoldable pub one_set : Unit {0} → Exprs → Reader Exprs
one_set _ es = do
  takes (a_sign 61)
  e ← expr 16
  takes (a_sign 59)
  give (and es e)

-- past its name: "(" [param {"," param}] ")" "{" {"." "=" expr ";"} "return" expr ";" "}"
unfoldable pub function : Name → Reader Function
function w = do
  takes (a_sign 40)
  ps ← params
  takes (a_sign 123)
  es ← many (the_word (codes ".")) one_set no_expr
  takes (the_word (codes "return"))
  i ← here
  e ← expr 16
  takes (a_sign 59)
  takes (a_sign 125)
  give (record { name = w; params = ps; sets = es; first = i; returned = e })

-- past its name, in front of which this was left: a function with its tokens and their places
unfoldable pub source : Tokens → Name → Reader Source
source c w = do
  f ← function w
  n ← here
  afresh
  give (record { syntax = f; tokens = take n (bare c); places = take n (places c) })

-- {function}, behind those read so far, with room for so many more
unfoldable pub functions : ℕ → List Source → Reader (List Source)
functions zero fs = do
  skips_of 0 0 a_word
  ends
  give fs
functions (suc n) fs = do
  c ← left
  t ← skips a_word
  if_some t (λ w. source c w >>= (λ f. functions n (fs ++ f ∷ []))) (do
    ends
    give fs)

-- function {function}, at most 64
unfoldable pub model : Reader (List Source)
model = do
  c ← left
  w ← takes a_word
  f ← source c w
  functions 63 (f ∷ [])

-- the functions of a model's bytes
abbrev pub reads : List ℕ → Outcome (List Source)
reads bytes = model (fresh (tokens_of bytes))
