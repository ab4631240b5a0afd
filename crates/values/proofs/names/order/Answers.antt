use Rattle.values.proofs.Orders.{compared}
use Rattle.values.proofs.names.order.Goals as goal

pub returns : goal.returns
returns c = compared c.args.a.now c.args.b.now c.cmp.result c.cmp.ensures
