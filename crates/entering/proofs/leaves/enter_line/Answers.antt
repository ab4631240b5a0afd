use Rattle.std.proofs.lemmas.Result.{err_from_is_err_and}
use Rattle.entering.proofs.Endings.{some_feed, at_feed}
use Rattle.entering.proofs.leaves.enter_line.Goals as goal

pub unreachable-requires : goal.unreachable-requires
unreachable-requires c = some_feed c.requires.0 c.args.bytes.now c.requires.1 c.cut-lines.result.first.now c.cut-lines.result.rest c.requires.2 c.cut-lines.ensures.0 c.cut-lines.ensures.1 c.in_default.is

pub enter_leaf-requires : goal.enter_leaf-requires
enter_leaf-requires c =
    let h = at_feed c.requires.0 c.args.bytes.now c.requires.1 c.cut-lines.result.first.now c.cut-lines.result.rest c.in-Some.rest c.requires.2 c.cut-lines.ensures.0 c.cut-lines.ensures.1 c.in-Some.is in
    (c.requires.0, h.0, c.requires.3)

pub returns-in_err-number : goal.returns-in_err-number
returns-in_err-number c = λ x after e.
    let h = at_feed x c.args.bytes.now after c.cut-lines.result.first.now c.cut-lines.result.rest c.in-Some.rest e c.cut-lines.ensures.0 c.cut-lines.ensures.1 c.in-Some.is in
    let p = err_from_is_err_and c.from_residual.result c.from_residual.ensures.1 in
    rw p.1 (c.in_err-number.ensures x h.0)

pub returns : goal.returns
returns c = λ x after e.
    let h = at_feed x c.args.bytes.now after c.cut-lines.result.first.now c.cut-lines.result.rest c.in-Some.rest e c.cut-lines.ensures.0 c.cut-lines.ensures.1 c.in-Some.is in
    let s = c.in_ok-number.ensures x h.0 in
    (s.0, s.1, h.1)
