-- The numbers by which rules are told. Assumes nothing.
use Rattle.std.specs.Prelude.{ℕ}
use Rattle.reader.specs.declared.refusals.Rule.{Rule}
use Rattle.reader.specs.declared.refusals.Rule.TheVariants as rule

abbrev pub rule_number : Rule → ℕ
rule_number rule.TooLong = 1
rule_number rule.NoToken = 2
rule_number rule.NotInGrammar = 3
rule_number rule.PastLimit = 4
rule_number rule.BadName = 5
rule_number rule.Unknown = 6
rule_number rule.WrongCount = 7
