use Rattle.std.proofs.Common.{◌≡◌, sym, ap, ◌∙◌, subst, rules}
use borrow.Author.Tests.{tests}
use Rattle.std.specs.Option.{option_map}
use Rattle.std.proofs.lemmas.Iterator.{YieldsList-from_slice}
use Rattle.std.proofs.lemmas.Iterator.Search.{find_from_yields_List}
use Rattle.values.specs.Values.{member}
use Rattle.values.specs.Table.{members_of, Numbered}
use Rattle.values.specs.Memory.{values}
use Rattle.values.specs.declared.parts.Member.{Member}
use Rattle.values.proofs.Membership.{has_name, first_named}
use Rattle.values.proofs.store.Table.member_in.Goals as goal

pub returns : goal.returns
returns c =
    let T = values c.args.self.now in
    let ms = c.args.members.now in
    let name = c.args.name.now in
    let first = find_from_yields_List (has_name T name) _ _ c.find.result c.find.ensures.ran (YieldsList-from_slice ms cc) (λ x b q k. search (rules, tests)) in
    let number : c.map.result ≡ option_map (λ (m : Member). m.value) (option_map (λ x. x.now) c.find.result) = search (rules, tests) in
    subst (Numbered T (member name (members_of T ms))) (sym (number ∙ ap (option_map (λ (m : Member). m.value)) first)) (first_named T name ms c.requires)
