use Rattle.std.proofs.Common.{◌≡◌, ◌++◌, Ok, subst, sym, ap, ◌∙◌, arith}
use mathlib.Core.Option.{some}
use Rattle.values.specs.Values.{mapped}
use Rattle.trees.specs.Contents.{Begins}
use Rattle.trees.specs.Files.{unescape}
use Rattle.trees.proofs.Splits.{unescape_escape}
use Rattle.entering.proofs.Bytes.{some_room, not_wrong}
use Rattle.entering.proofs.leaves.unescape.Goals as goal

pub push-requires : goal.push-requires
push-requires c =
    let w = c.loop-byte.text.items in
    let b = subst (Begins c.loop-byte.left.now) (c.in-Ok-Some.is ∙ ap Ok c.in-Ok-Some.field-0-is) c.next_byte.ensures in
    let is : unescape c.args.content.now ≡ some c.requires.content.0 = ap unescape c.requires.content.1 ∙ unescape_escape c.requires.content.0 in
    let h = some_room w c.in-Ok-Some.byte (unescape c.in-Ok-Some.rest.now) c.requires.content.0 (ap (mapped (λ t. w ++ t)) (sym b.0) ∙ c.loop-byte.invariant ∙ is) in
    (omega arith, omega (arith, h, c.requires.content.2))

pub returns-in_default-2 : goal.returns-in_default-2
returns-in_default-2 c =
    let b = subst (Begins c.loop-byte.left.now) c.in_default.is c.next_byte.ensures in
    not_wrong c.loop-byte.text.items c.requires.content.0 (unescape c.loop-byte.left.now) (unescape c.args.content.now) b c.loop-byte.invariant (ap unescape c.requires.content.1 ∙ unescape_escape c.requires.content.0)
