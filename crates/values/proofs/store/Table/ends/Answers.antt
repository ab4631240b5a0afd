use Rattle.std.proofs.Common.{◌≡◌, ◌-◌, drop, vec_items, vec_len, ap, ◌∙◌, rules, arith}
use borrow.Author.Tests.{tests}
use Rattle.std.specs.List.{fold}
use Rattle.std.specs.Prelude.{reverse}
use Rattle.std.proofs.lemmas.List.{take_rest}
use Rattle.std.proofs.lemmas.Iterator.Consumers.{fold_from_yields_List}
use Rattle.std.proofs.lemmas.Iterator.Adapters.{YieldsList-from_rev_slice}
use Rattle.values.proofs.Ends.{before_node, ends_are}
use Rattle.values.proofs.store.Table.ends.Goals as goal

pub returns : goal.returns
returns c =
    let t = c.args.self.now in
    let k = c.args.count in
    let behind : c.rev-behind.result.iter.rest.now ≡ drop k (vec_items t.nodes) = ap (λ i. i.rest.now) c.rev-behind.ensures.source ∙ c.iter.ensures.rest ∙ take_rest c.deref.result.now k ∙ ap (drop k) c.deref.ensures.value in
    let all = fold_from_yields_List _ before_node _ c.fold.result c.fold.ensures.ran (YieldsList-from_rev_slice (drop k (vec_items t.nodes)) behind) (λ a x b q k. search (rules, tests)) in
    all ∙ (λ j. fold before_node (c.len.ensures j, c.len-2.ensures j) (reverse (drop k (vec_items t.nodes)))) ∙ ends_are t (vec_len t.nodes - k) k (omega arith)
