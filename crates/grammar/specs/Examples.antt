-- Worked examples of models: tokens, functions, every refusal from 1 to 7, limits at their edges. Assumes nothing.
use Rattle.std.specs.Prelude.{◌≡◌, ℕ, zero, suc, Bool, true, false, ◌||◌, List, [], ◌∷◌, ◌++◌, replicate, codes}
use Rattle.values.specs.Values.{Name, same_name}
use Rattle.grammar.specs.Tokens.{word, text, same, sign, value, end, no_token, next, tokens_of, bare, places}
use Rattle.grammar.specs.Syntax.{Expr, quoted, constant, dot, named, pick, has, equal, plus, choose, bracket, call, tool, Exprs, no_expr, and, no_part, part, Param, Function}
use Rattle.grammar.specs.Texts.{text_of}
use Rattle.grammar.specs.Models.{Reading, refused, accepted, read_model}

-- the tools that there are
abbrev tools : Name → Bool
tools t = same_name t (codes "cat") || same_name t (codes "first")

-- what a model is read as where there are these tools
abbrev pub read : List ℕ → Reading
read = read_model tools

-- whether a model is accepted
abbrev pub is_accepted : Reading → Bool
is_accepted (refused n p) = false
is_accepted (accepted fs) = true

-- a function's syntax tree
abbrev function : Name → List Param → Exprs → ℕ → Expr → Function
function w ps es i e = record { name = w; params = ps; sets = es; first = i; returned = e }

-- the syntax trees of a model's functions
abbrev trees : Reading → List Function
trees (refused n p) = []
trees (accepted []) = []
trees (accepted (f ∷ fs)) = f.syntax ∷ trees (accepted fs)

-- their texts
abbrev texts : Reading → List (List ℕ)
texts (refused n p) = []
texts (accepted []) = []
texts (accepted (f ∷ fs)) = text_of f ∷ texts (accepted fs)

-- `main` that returns an expression
abbrev returns : List ℕ → List ℕ
returns e = codes "main() { return " ++ e ++ codes "; }"

-- its syntax tree
abbrev main_tree : Expr → List Function
main_tree e = function (codes "main") [] no_expr 5 e ∷ []

-- the same bytes so many times
abbrev times : ℕ → List ℕ → List ℕ
times zero l = []
times (suc n) l = l ++ times n l

-- bytes in quotes
abbrev quote : List ℕ → List ℕ
quote l = 34 ∷ l ++ 34 ∷ []

-- the examples
pub record Examples : Type 0 where
  -- tokens and places: `===` is `==` and `=`; blanks, tabs and line feeds part tokens
  pub equals : tokens_of (codes "a=== b") ≡ next 0 (word (codes "a")) (next 1 same (next 3 (sign 61) (next 5 (word (codes "b")) (end 6))))
  pub parted : places (tokens_of (32 ∷ 97 ∷ 9 ∷ 98 ∷ 10 ∷ 99 ∷ 32 ∷ [])) ≡ 1 ∷ 3 ∷ 5 ∷ []
  pub longest_runs : bare (tokens_of (codes "./a-b.c!..")) ≡ word (codes ".") ∷ sign 47 ∷ word (codes "a-b.c") ∷ sign 33 ∷ word (codes "..") ∷ []
  pub quotes : tokens_of (codes "\"a\\\"b\\\\\"c") ≡ next 0 (text (codes "a\\\"b\\\\")) (next 8 (word (codes "c")) (end 9))
  pub escapes : value (codes "a\\n\\t\\\\\\\"b") ≡ 97 ∷ 10 ∷ 9 ∷ 92 ∷ 34 ∷ 98 ∷ []
  pub words : (tokens_of (replicate 32 97) ≡ next 0 (word (replicate 32 97)) (end 32)) × (tokens_of (replicate 33 97) ≡ no_token 0)
  -- functions
  pub joined : trees (read (returns (codes "\"a\" + \"b\""))) ≡ main_tree (plus 5 (quoted 5 (codes "a")) (quoted 7 (codes "b")))
  pub member : trees (read (returns (codes "./x"))) ≡ main_tree (pick 5 (dot 5) 7 (codes "x"))
  pub any_names : trees (read (returns (codes ". ! if / TRUE"))) ≡ main_tree (pick 5 (has 5 (dot 5) 7 (codes "if")) 9 (codes "TRUE"))
  pub inside : trees (read (returns (codes "(TRUE)"))) ≡ main_tree (constant 6 true)
  pub choice : trees (read (codes "main(){. = .; return if .==\"a\" then FALSE else [];}"))
      ≡ function (codes "main") [] (and no_expr (dot 6)) 9 (choose 9 (equal 10 (dot 10) (quoted 12 (codes "a"))) (constant 14 false) (bracket 16 no_part)) ∷ []
  pub calls : trees (read (codes "f(key a, b){return a;} main(){return [a=f(., .), b=_run_tool(\"cat\", \"x\", .)];}"))
      ≡ function (codes "f") (record { index = 3; name = codes "a"; key = true } ∷ record { index = 5; name = codes "b"; key = false } ∷ []) no_expr 9 (named 9 (codes "a"))
      ∷ main_tree (bracket 5 (part (part no_part 6 (codes "a") (call 8 (codes "f") (and (and no_expr (dot 10)) (dot 12)))) 15 (codes "b") (tool 17 19 (codes "cat") (quoted 21 (codes "x")) (dot 23))))
  pub several : is_accepted (read (codes "sum_of(key a, b) { return a + b; } main() { . = ./heads; return if . ! spare then [head = sum_of(./main/type, \"-\"), list = _run_tool(\"cat\", \"main/type spare/type\", .)] else ./main; }")) ≡ true
  pub function_text : texts (read (codes "main( ){return\"a\\n\"+.;}")) ≡ codes "main ( ) { return \"a\\n\" + . ; }" ∷ []
  -- 1
  pub too_long : read (replicate 8193 32) ≡ refused 1 0
  pub not_too_long : read (replicate 8192 32) ≡ refused 3 8192
  -- 2
  pub no_such_sign : read (returns (codes "a * b")) ≡ refused 2 18
  pub word_too_long : read (returns (replicate 33 97)) ≡ refused 2 16
  pub open_quote : read (codes "main() { return \"a; }") ≡ refused 2 16
  pub tab_in_quotes : read (returns (quote (97 ∷ 9 ∷ []))) ≡ refused 2 16
  pub byte_127 : read (returns (quote (127 ∷ []))) ≡ refused 2 16
  pub other_escape : read (returns (codes "\"\\r\"")) ≡ refused 2 16
  -- 3
  pub empty : read [] ≡ refused 3 0
  pub early : read (codes "main() { return . ") ≡ refused 3 18
  pub key_word : read (returns (codes "key")) ≡ refused 3 16
  pub if_in_a_sum : read (returns (codes ". + if . then . else .")) ≡ refused 3 20
  pub two_equals : read (returns (codes ". == . == .")) ≡ refused 3 23
  pub truth_called : read (returns (codes "TRUE ()")) ≡ refused 3 21
  pub tool_alone : read (returns (codes "_run_tool")) ≡ refused 3 25
  pub tool_by_word : read (returns (codes "_run_tool(cat, ., .)")) ≡ refused 3 26
  pub no_return : read (codes "main() { .; }") ≡ refused 3 10
  pub one_word : read (codes "main(){return.;}") ≡ refused 3 7
  pub behind_all : read (codes "main() { return .; } }") ≡ refused 3 21
  -- 4: level 16, 8 parameters, 64 names in a bracket, 64 functions, 1,024 bytes of function text
  pub level_16 : trees (read (returns (codes "((((((((((((((( . )))))))))))))))"))) ≡ main_tree (dot 20)
  pub level_17 : read (returns (codes "(((((((((((((((( . ))))))))))))))))")) ≡ refused 4 33
  pub level_17_wrong : read (returns (codes "(((((((((((((((( ) ))))))))))))))))")) ≡ refused 3 33
  pub else_if_deepens : read (returns (times 16 (codes "if . then . else ") ++ codes ".")) ≡ refused 4 274
  pub eight : is_accepted (read (codes "f(a,b,c,d,e,g,h,i){return a;} main(){return .;}")) ≡ true
  pub nine : read (codes "f(a,b,c,d,e,g,h,i,key j){return a;} main(){return .;}") ≡ refused 4 18
  pub names_64 : read (returns (codes "[a=." ++ times 63 (codes ",a=.") ++ codes "]")) ≡ refused 5 21
  pub names_65 : read (returns (codes "[a=." ++ times 64 (codes ",a=.") ++ codes "]")) ≡ refused 4 273
  pub functions_64 : read (times 64 (codes "main(){return .;}")) ≡ refused 5 17
  pub functions_65 : read (times 65 (codes "main(){return .;}")) ≡ refused 4 1088
  pub text_1024 : is_accepted (read (codes "main(){return" ++ quote (replicate 1000 97) ++ codes ";}")) ≡ true
  pub text_1025 : read (codes "main(){return" ++ quote (replicate 1001 97) ++ codes ";}") ≡ refused 4 1017
  -- 5
  pub reserved : read (codes "main(){return .;} then(){return .;}") ≡ refused 5 18
  pub unfit_name : read (codes "main(){return .;} a.b(){return .;}") ≡ refused 5 18
  pub digit_first : read (codes "main(){return .;} f(1a){return .;}") ≡ refused 5 20
  pub key_parameter : read (codes "main(){return .;} f(key){return .;}") ≡ refused 5 20
  pub same_function : read (codes "main(){return .;} f(){return .;} f(){return .;}") ≡ refused 5 33
  pub same_parameter : read (codes "main(){return .;} f(a, key a){return .;}") ≡ refused 5 27
  pub dots_picked : read (returns (codes "./..")) ≡ refused 5 18
  pub same_part : read (returns (codes "[a = ., b = ., a = .]")) ≡ refused 5 31
  -- 6
  pub no_main : read (codes "f(){return .;} ") ≡ refused 6 15
  pub no_parameter : read (codes "main(){return a;} f(a){return a;}") ≡ refused 6 14
  pub no_function : read (codes "f(a){return a();} main(){return .;}") ≡ refused 6 12
  pub no_tool : read (returns (codes "_run_tool(\"ld\", ., .)")) ≡ refused 6 26
  -- 7
  pub too_few : read (codes "main(){return f(.);} f(a,b){return a;}") ≡ refused 7 14
  pub main_with_parameter : read (codes "main(a){return a;}") ≡ refused 7 0
  -- the earliest place goes first, and at one place the lower number; 2, 3 and 4 go before 5, 6 and 7
  pub earliest : read (codes "main(){return f(x);} f(){return .;} f(){return .;}") ≡ refused 7 14
  pub lower : read (codes "main(){return .;} main(a){return a;}") ≡ refused 5 18
  pub grammar_first : read (codes "then(){return .;} f(){return .}") ≡ refused 3 30
