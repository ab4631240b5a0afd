use Rattle.std.proofs.Common.{refl}
use Rattle.scanner.specs.Views.{ahead}
use Rattle.scanner.proofs.Cuts.{cut_few}
use Rattle.scanner.proofs.scanner.Scanner.new.Goals as goal

pub returns : goal.returns
unfolding ahead
returns c = record { all = refl; few = cut_few 0 0 c.args.model.now }
