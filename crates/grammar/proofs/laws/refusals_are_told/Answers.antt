use Rattle.grammar.proofs.Promises.{refusals_are_numbered}
use Rattle.grammar.proofs.Flaws.{earliest_is_told}
use Rattle.grammar.proofs.laws.refusals_are_told.Goals as goal

pub returns : goal.returns
returns c = record { numbered = refusals_are_numbered; earliest = earliest_is_told }
