use Rattle.grammar.proofs.Parts.{tokens_are_parts}
use Rattle.grammar.proofs.laws.tokens_are_parts.Goals as goal

pub returns : goal.returns
returns c = tokens_are_parts
