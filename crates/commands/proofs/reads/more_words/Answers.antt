use Rattle.std.proofs.Common.{rules}
use Rattle.commands.proofs.Parting.{no_more}
use Rattle.commands.proofs.reads.more_words.Goals as goal

pub returns-in_default : goal.returns-in_default
returns-in_default c = no_more c.args.word.now c.args.name.now c.args.file.now (λ e. search rules)
