use Rattle.values.proofs.InMemory.{truths_of}
use Rattle.values.proofs.store.Table.truth.Goals as goal

pub returns-then-b : goal.returns-then-b
returns-then-b c = let t = c.args.self.now in rw c.if-b.true (truths_of t).0

pub returns-else-b : goal.returns-else-b
returns-else-b c = let t = c.args.self.now in rw c.if-b.false (truths_of t).1
