use Rattle.std.proofs.Common.{rules}
use Rattle.commands.proofs.Parting.{no_two}
use Rattle.commands.proofs.reads.two_words.Goals as goal

pub returns-in_default : goal.returns-in_default
returns-in_default c = no_two c.args.word.now c.args.file.now (λ e. search rules)
