use Rattle.std.proofs.Common.{refl, ◌∙◌}
use Rattle.commands.proofs.Parting.{asks_more}
use Rattle.commands.proofs.reads.command.Goals as goal

pub returns-in-len3-up : goal.returns-in-len3-up
returns-in-len3-up c = c.more_words.ensures ∙ asks_more c.args.words.now _ _ _ _ c.in-len3-up.len_at_least refl
