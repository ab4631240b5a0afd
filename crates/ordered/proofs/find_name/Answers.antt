use Rattle.ordered.specs.Names.{name_order_total}
use Rattle.ordered.proofs.find_name.Goals as goal

pub returns : goal.returns
returns c = c.find.ensures.found name_order_total
