use Rattle.std.proofs.Common.{rules}
use Rattle.trees.proofs.Reading.{no_leaf}
use Rattle.trees.proofs.lines.read_leaf.Goals as goal

pub returns-in_default : goal.returns-in_default
returns-in_default c = no_leaf c.args.kind.now c.args.content.now (λ e. search rules) (λ e. search rules) (λ e. search rules)
