use Rattle.std.proofs.Common.{refl}
use Rattle.grammar.specs.Tokens.{cut}
use Rattle.grammar.specs.Readers.{◌>>=◌, takes_of, skips_of, chain, ends}
use Rattle.grammar.specs.Grammar.{listed, arguments, one_part, parts, atom_from, atom, term, sum, expr_over, expr, one_param, params, one_set, function, source, functions, model}
use Rattle.grammar.specs.Models.{read_model}
use Rattle.grammar.proofs.examples.examples_hold.Goals as goal

pub returns : goal.returns
unfolding cut ◌>>=◌ takes_of skips_of chain ends listed arguments one_part parts atom_from atom term sum expr_over expr one_param params one_set function source functions model read_model
returns c = record {
  equals = refl;
  parted = refl;
  longest_runs = refl;
  quotes = refl;
  escapes = refl;
  words = (refl, refl);
  joined = refl;
  member = refl;
  any_names = refl;
  inside = refl;
  choice = refl;
  calls = refl;
  several = refl;
  function_text = refl;
  too_long = refl;
  not_too_long = refl;
  no_such_sign = refl;
  word_too_long = refl;
  open_quote = refl;
  tab_in_quotes = refl;
  byte_127 = refl;
  other_escape = refl;
  empty = refl;
  early = refl;
  key_word = refl;
  if_in_a_sum = refl;
  two_equals = refl;
  truth_called = refl;
  tool_alone = refl;
  tool_by_word = refl;
  no_return = refl;
  one_word = refl;
  behind_all = refl;
  level_16 = refl;
  level_17 = refl;
  level_17_wrong = refl;
  else_if_deepens = refl;
  eight = refl;
  nine = refl;
  names_64 = refl;
  names_65 = refl;
  functions_64 = refl;
  functions_65 = refl;
  text_1024 = refl;
  text_1025 = refl;
  reserved = refl;
  unfit_name = refl;
  digit_first = refl;
  key_parameter = refl;
  same_function = refl;
  same_parameter = refl;
  dots_picked = refl;
  same_part = refl;
  no_main = refl;
  no_parameter = refl;
  no_function = refl;
  no_tool = refl;
  too_few = refl;
  main_with_parameter = refl;
  earliest = refl;
  lower = refl;
  grammar_first = refl;
}
