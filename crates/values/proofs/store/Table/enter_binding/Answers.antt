use Rattle.std.proofs.Common.{◌≤◌, subst, arith}
use Rattle.values.specs.Memory.{values}
use Rattle.values.proofs.InMemory.{all_proper_of}
use Rattle.values.proofs.Propers.{proper_binding}
use Rattle.values.proofs.Findings.{fit_parts}
use Rattle.values.proofs.store.Table.enter_binding.Goals as goal

pub enter-requires-clause-right : goal.enter-requires-clause-right
enter-requires-clause-right c =
    let t = c.args.self.now in
    let ms = c.args.members.now in
    let k = fit_parts ms (values t) c.if-not-are_fit.ensures in
    proper_binding (values t) (all_proper_of t) ms k.0 k.1 (omega arith) (subst (λ h. h ≤ 16) c.height_over-height.ensures (omega arith))
