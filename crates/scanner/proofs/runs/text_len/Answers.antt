use Rattle.std.proofs.Common.{◌-◌, length, drop, take, Ok, subst, ◌∙◌}
use Rattle.scanner.specs.Views.{GoesOn}
use Rattle.scanner.proofs.Quotes.{left_more, left_close, left_wrong, failed}
use Rattle.scanner.proofs.runs.text_len.Goals as goal

pub returns-in_err-n-clause-counted : goal.returns-in_err-n-clause-counted
returns-in_err-n-clause-counted c = failed c.from_residual.result c.from_residual.ensures.0 ∙ left_wrong c.args.bytes.now c.loop-n.i c.loop-n.invariant c.in_err-n.ensures

pub loop-n-preserved : goal.loop-n-preserved
loop-n-preserved c =
    let s = c.args.bytes.now in
    left_more s c.loop-n.i c.in-Some.n c.loop-n.invariant (subst (λ o. GoesOn (take (length s - c.loop-n.i) (drop c.loop-n.i s)) (Ok o)) c.in-Some.is c.in_ok-n.ensures)

pub returns-clause-counted : goal.returns-clause-counted
returns-clause-counted c =
    let s = c.args.bytes.now in
    left_close s c.loop-n.i c.loop-n.invariant (subst (λ o. GoesOn (take (length s - c.loop-n.i) (drop c.loop-n.i s)) (Ok o)) c.in_default.is c.in_ok-n.ensures)
