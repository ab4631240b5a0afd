use Rattle.std.proofs.Common.{◌+◌, ◌-◌, ◌/◌, vec_items, Less, Equal, Greater, refl, ◌∙◌, arith}
use Rattle.std.proofs.lemmas.List.{at_drop_all}
use Rattle.values.specs.Index.{content_key, all_after}
use Rattle.values.specs.Memory.{key_of}
use Rattle.values.proofs.Indexes.{order_tells}
use Rattle.values.proofs.InMemory.{number_below, halved_up, halved_down}
use Rattle.values.proofs.Searches.{side_there}
use Rattle.values.proofs.store.Table.find.Goals as goal

pub loop-low-init : goal.loop-low-init
loop-low-init c =
    let t = c.args.self.now in
    (omega arith, omega arith, refl, at_drop_all (all_after (key_of t) (content_key c.args.sought)) (vec_items t.index) c.len-high.result (omega (arith, t.index.ok.0)))

pub loop-low-preserved-in-Less : goal.loop-low-preserved-in-Less
loop-low-preserved-in-Less c =
    let t = c.args.self.now in
    let k = content_key c.args.sought in
    let m = c.loop-low.low + (c.loop-low.high - c.loop-low.low) / 2 in
    let i = c.index-number.result.now in
    let there = number_below t m i (omega arith) c.index-number.ensures in
    let b = order_tells (key_of t i) k Less (c.in-Less.ensures ∙ side_there t k i there) in
    (omega arith, c.loop-low.invariant.1, halved_up t k m i (omega arith) c.index-number.ensures b, c.loop-low.invariant.3)

pub returns-in-Equal : goal.returns-in-Equal
returns-in-Equal c =
    let t = c.args.self.now in
    let k = content_key c.args.sought in
    let m = c.loop-low.low + (c.loop-low.high - c.loop-low.low) / 2 in
    let i = c.index-number.result.now in
    let there = number_below t m i (omega arith) c.index-number.ensures in
    (there, order_tells (key_of t i) k Equal (c.in-Equal.ensures ∙ side_there t k i there))

pub loop-low-preserved : goal.loop-low-preserved
loop-low-preserved c =
    let t = c.args.self.now in
    let k = content_key c.args.sought in
    let m = c.loop-low.low + (c.loop-low.high - c.loop-low.low) / 2 in
    let i = c.index-number.result.now in
    let there = number_below t m i (omega arith) c.index-number.ensures in
    let b = order_tells (key_of t i) k Greater (c.in-Greater.ensures ∙ side_there t k i there) in
    (omega arith, omega arith, c.loop-low.invariant.2, halved_down t k m i (omega arith) c.index-number.ensures b)
