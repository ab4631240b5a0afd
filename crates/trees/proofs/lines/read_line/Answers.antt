use Rattle.std.proofs.Common.{◌≡◌, Some, None, sym, ap, ◌∙◌, rules}
use mathlib.Core.Option.{none, some}
use mathlib.Core.Logic.{inl, inr}
use Rattle.std.specs.Option.{is_some}
use Rattle.values.specs.Values.{mapped}
use Rattle.trees.specs.Lines.{line}
use Rattle.trees.specs.Files.{split, all_fit, leaf_of}
use Rattle.trees.specs.Raw.{raw_leaf}
use Rattle.trees.proofs.Reading.{no_kind, no_content, fields, no_line, one_line, unread}
use Rattle.trees.proofs.lines.read_line.Goals as goal
use Rattle.trees.proofs.lines.read_line.Goals.{then-is_some-via-then-is_some, then-is_some-via-else-is_some+then-not-is_path}

pub returns-in_err-ok_or : goal.returns-in_err-ok_or
returns-in_err-ok_or c =
    let e : c.cut-path.result.rest ≡ None = search rules in
    unread _ c.from_residual.ensures.0 ∙ no_kind c.args.bytes.now c.cut-path.result c.cut-path.ensures e

pub returns-in_err-content : goal.returns-in_err-content
returns-in_err-content c =
    let e : c.cut-path.result.rest ≡ Some c.in_ok-ok_or.field-0 = search rules in
    let f : c.cut-kind.result.rest ≡ None = search rules in
    unread _ c.from_residual-in_err-content.ensures.0 ∙ no_content c.args.bytes.now c.cut-path.result c.cut-kind.result c.in_ok-ok_or.field-0 c.cut-path.ensures e c.cut-kind.ensures f

pub returns-then-is_some : goal.returns-then-is_some
returns-then-is_some c =
    let e : c.cut-path.result.rest ≡ Some c.in_ok-ok_or.field-0 = search rules in
    let f : c.cut-kind.result.rest ≡ Some c.in_ok-content.content = search rules in
    no_line (is_some c.cut.result.rest) (all_fit (split 47 c.cut-path.result.first.now)) _ _ (fields c.args.bytes.now c.cut-path.result c.cut-kind.result c.cut.result c.in_ok-ok_or.field-0 c.in_ok-content.content c.cut-path.ensures e c.cut-kind.ensures f c.cut.ensures)
    (elim c.then-is_some.branch [
      | then-is_some-via-then-is_some w ↦ inl (search rules)
      | then-is_some-via-else-is_some+then-not-is_path w ↦ inr (search rules)
    ])

pub returns-in_err-leaf : goal.returns-in_err-leaf
returns-in_err-leaf c =
    let e : c.cut-path.result.rest ≡ Some c.in_ok-ok_or.field-0 = search rules in
    let f : c.cut-kind.result.rest ≡ Some c.in_ok-content.content = search rules in
    let p = split 47 c.cut-path.result.first.now in
    let l : none ≡ leaf_of c.cut-kind.result.first.now c.in_ok-content.content.now = search rules in
    unread _ c.from_residual-in_err-leaf.ensures.0
    ∙ ap (mapped (line p)) l
    ∙ sym (one_line _ _ _ _ (fields c.args.bytes.now c.cut-path.result c.cut-kind.result c.cut.result c.in_ok-ok_or.field-0 c.in_ok-content.content c.cut-path.ensures e c.cut-kind.ensures f c.cut.ensures) c.if-is_some.ensures c.if-not-is_path.ensures)

pub returns : goal.returns
returns c =
    let e : c.cut-path.result.rest ≡ Some c.in_ok-ok_or.field-0 = search rules in
    let f : c.cut-kind.result.rest ≡ Some c.in_ok-content.content = search rules in
    let p = split 47 c.cut-path.result.first.now in
    let l : some (raw_leaf c.in_ok-leaf.leaf) ≡ leaf_of c.cut-kind.result.first.now c.in_ok-content.content.now = search rules in
    ap (mapped (line p)) l
    ∙ sym (one_line _ _ _ _ (fields c.args.bytes.now c.cut-path.result c.cut-kind.result c.cut.result c.in_ok-ok_or.field-0 c.in_ok-content.content c.cut-path.ensures e c.cut-kind.ensures f c.cut.ensures) c.if-is_some.ensures c.if-not-is_path.ensures)
