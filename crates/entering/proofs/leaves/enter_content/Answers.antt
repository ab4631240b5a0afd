use Rattle.std.proofs.Common.{length, subst, sym, ap, ◌∙◌, ◌≤◌}
use mathlib.Core.Option.{some}
use Rattle.values.specs.Memory.{values}
use Rattle.trees.specs.Cuts.{free}
use Rattle.entering.proofs.Bytes.{plain_text}
use Rattle.entering.proofs.Endings.{text_is, same_text}
use Rattle.entering.proofs.leaves.enter_content.Goals as goal

pub enter_text-requires : goal.enter_text-requires
enter_text-requires c =
    let same = c.requires.1 ∙ plain_text c.requires.0 (ap (free 92) (sym c.requires.1) ∙ sym c.if-is_plain.ensures) in
    subst (λ l. length l ≤ 1024) (sym same) c.requires.2

pub returns-then-is_plain : goal.returns-then-is_plain
returns-then-is_plain c = λ s e.
    same_text c.args.content.now s (values c.args.table.now) c.enter_text.result (values c.enter_text.new.table) (e ∙ plain_text s (ap (free 92) (sym e) ∙ sym c.if-is_plain.ensures)) c.enter_text.ensures

pub returns : goal.returns
returns c = λ s e.
    let l = c.deref.result.now in
    same_text l s (values c.args.table.now) c.enter_text-2.result (values c.enter_text-2.new.table) (text_is l s c.args.content.now (ap some c.deref.ensures.0 ∙ c.unescape.ensures) e) c.enter_text-2.ensures
