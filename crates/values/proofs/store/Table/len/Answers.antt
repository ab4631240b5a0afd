use Rattle.std.proofs.Common.{sym, ◌∙◌}
use Rattle.values.proofs.InMemory.{length_of}
use Rattle.values.proofs.store.Table.len.Goals as goal

pub returns : goal.returns
returns c = c.len.ensures ∙ sym (length_of c.args.self.now)
