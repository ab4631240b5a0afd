use Rattle.grammar.proofs.Promises.{texts_tell_tokens, texts_tell_functions, texts_are_short}
use Rattle.grammar.proofs.laws.texts_tell_functions.Goals as goal

pub returns : goal.returns
returns c = record { tokens = texts_tell_tokens; functions = texts_tell_functions; short = texts_are_short }
