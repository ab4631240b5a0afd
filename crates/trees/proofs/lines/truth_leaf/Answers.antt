use Rattle.std.proofs.Common.{rules}
use Rattle.trees.proofs.Reading.{no_truth}
use Rattle.trees.proofs.lines.truth_leaf.Goals as goal

pub returns-in_default : goal.returns-in_default
returns-in_default c = no_truth c.args.word.now (λ e. search rules) (λ e. search rules)
