use Rattle.grammar.proofs.Placeless.{functions_stand_alone}
use Rattle.grammar.proofs.laws.functions_stand_alone.Goals as goal

pub returns : goal.returns
returns c = functions_stand_alone
