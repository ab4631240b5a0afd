use Rattle.std.proofs.Common.{◌≡◌, get_or, refl, arith, rules}
use Rattle.values.specs.Values.{nil}
use Rattle.values.specs.Memory.{values}
use Rattle.entering.proofs.Endings.{truth_enters}
use Rattle.entering.proofs.leaves.enter_leaf.Goals as goal

pub enter_binding-requires : goal.enter_binding-requires
enter_binding-requires c = (nil, record { stands = tt; are_ordered = refl; are_named = refl; few = omega arith; low = omega arith })

pub returns-in-98 : goal.returns-in-98
returns-in-98 c = λ x e.
    let kind : get_or c.args.leaf.now 0 0 ≡ 98 = search rules in
    truth_enters x c.args.leaf.now e kind (values c.args.table.now) c.truth.result c.truth.ensures
