use Rattle.scanner.specs.Views.{ahead}
use Rattle.scanner.proofs.Cuts.{given}
use Rattle.scanner.proofs.scanner.Scanner.next.Goals as goal

pub returns : goal.returns
unfolding ahead
returns c = given c.args.self.now c.see-end.result.0.place c.see-end.result.0.token c.see-end.result.1 c.see-end.ensures
