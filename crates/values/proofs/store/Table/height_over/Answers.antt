use Rattle.std.proofs.Common.{sym, ap, ◌∙◌, rules, arith}
use borrow.Author.Tests.{tests}
use Rattle.std.specs.Option.{unwrap_or}
use Rattle.std.proofs.lemmas.Iterator.{YieldsList-from_slice, YieldsList-from_map}
use Rattle.std.proofs.lemmas.Iterator.Consumers.{max_from_yields_List}
use Rattle.std.proofs.lemmas.Iterator.Adapters.{option_map_id}
use Rattle.values.specs.Memory.{values}
use Rattle.values.proofs.Membership.{height_of, heights_are}
use Rattle.values.proofs.store.Table.height_over.Goals as goal

pub returns : goal.returns
returns c =
    let T = values c.args.self.now in
    let all = sym (option_map_id c.max.result) ∙ max_from_yields_List c.map-heights.result _ c.max.ensures.ran (YieldsList-from_map _ (height_of T) (YieldsList-from_slice c.args.members.now cc) c.map-heights.ensures.closure (λ x r q k. search (rules, tests))) in
    let e = c.unwrap_or.ensures ∙ ap (λ o. unwrap_or o 0) all ∙ heights_are T c.args.members.now in
    omega arith
