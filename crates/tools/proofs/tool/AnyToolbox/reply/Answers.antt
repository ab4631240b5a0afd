use Rattle.std.proofs.Common.{sym, ap, ◌∙◌, arith}
use mathlib.Core.Option.{some}
use Rattle.tools.specs.Calls.{answers_of}
use Rattle.tools.proofs.Named.{called_known, called_unknown, called_long}
use Rattle.tools.proofs.tool.AnyToolbox.reply.Goals as goal

pub returns-then-not-is_named : goal.returns-then-not-is_named
returns-then-not-is_named g c = sym (called_unknown g.T.Tool.own g.T.Tool.plan c.args.call (answers_of c.args.answers) (sym c.if-not-is_named.ensures))

pub returns-then-call-gt-MAX_BYTES : goal.returns-then-call-gt-MAX_BYTES
returns-then-call-gt-MAX_BYTES g c = sym (called_long g.T.Tool.own g.T.Tool.plan c.args.call (answers_of c.args.answers) (omega arith))

pub returns : goal.returns
returns g c = ap some (c.reply_of.ensures ∙ c.step.ensures) ∙ sym (called_known g.T.Tool.own g.T.Tool.plan c.args.call (answers_of c.args.answers) (sym c.if-not-is_named.ensures) (omega arith))
