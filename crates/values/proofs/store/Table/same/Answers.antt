use Rattle.std.proofs.lemmas.Bool.Decides.{same_from_decides, Decides-eqb}
use Rattle.values.specs.Values.{same_value}
use Rattle.values.proofs.InMemory.{same_of}
use Rattle.values.proofs.store.Table.same.Goals as goal

pub returns : goal.returns
returns c = λ u v e f. same_from_decides _ (same_value u v) (Decides-eqb c.args.a c.args.b) (same_of c.args.self.now c.args.a c.args.b u v e f)
