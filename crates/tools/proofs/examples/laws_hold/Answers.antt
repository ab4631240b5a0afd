use Rattle.tools.proofs.Whole.{cat_asks, cat_joins, first_asks, first_finds, first_fails}
use Rattle.tools.proofs.examples.laws_hold.Goals as goal

pub returns : goal.returns
returns c = record { cat_asks = cat_asks; cat_joins = cat_joins; first_asks = first_asks; first_finds = first_finds; first_fails = first_fails }
