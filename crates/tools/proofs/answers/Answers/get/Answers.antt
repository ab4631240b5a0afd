use Rattle.std.proofs.Common.{sym, ap, ◌∙◌}
use mathlib.Core.Option.{some}
use Rattle.tools.specs.Calls.{meant, heard}
use Rattle.tools.proofs.Looking.{nth_past, nth_here}
use Rattle.tools.proofs.answers.Answers.get.Goals as goal

pub returns-in_err-told : goal.returns-in_err-told
returns-in_err-told c = ap heard c.from_residual.ensures ∙ sym (nth_past (meant c.args.self.pool.now) c.args.self.told.now c.args.position c.in_err-told.ensures.lookup.3)

pub returns : goal.returns
returns c =
    let found = c.in_ok-told.ensures.lookup in
    ap some (c.read.ensures ∙ ap (meant c.args.self.pool.now) found.1) ∙ sym (nth_here (meant c.args.self.pool.now) c.args.self.told.now c.args.position c.in_ok-told.told.now found.3.0)
