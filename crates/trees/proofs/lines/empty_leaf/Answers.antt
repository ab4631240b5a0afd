use Rattle.trees.proofs.Reading.{not_empty}
use Rattle.trees.proofs.lines.empty_leaf.Goals as goal

pub returns-in_default : goal.returns-in_default
returns-in_default c = not_empty c.args.content.now c.in_default.len_at_least
