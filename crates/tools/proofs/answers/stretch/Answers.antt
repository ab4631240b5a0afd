use Rattle.tools.proofs.Looking.{cut_down}
use Rattle.tools.proofs.answers.stretch.Goals as goal

pub returns : goal.returns
returns c = cut_down c.args.pool.now c.args.span.start c.args.span.len c.min-start.result c.min-len.result c.min-start.ensures c.min-len.ensures
