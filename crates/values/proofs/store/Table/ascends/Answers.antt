use Rattle.std.proofs.Common.{◌≡◌, ◌≤◌, Bool, List, [], ◌∷◌, length, get_or, ap, ◌∙◌, arith}
use Rattle.values.specs.Values.{Name, Value, before}
use Rattle.values.specs.Table.{under, spelt, next_after}
use Rattle.values.specs.Memory.{values}
use Rattle.values.specs.declared.parts.Member.{Member}
use Rattle.values.proofs.Orders.{less}
use Rattle.values.proofs.Membership.{zero_member}
use Rattle.values.proofs.store.Table.ascends.Goals as goal

-- the test of the next name
next : (T : List Value) (a b : Name) (rest : List Member) (r : Bool) → 1 ≤ length rest → r ≡ before a b → b ≡ spelt (under T (get_or rest 0 zero_member).name) → r ≡ next_after T a rest
next T a b [] r h e f = absurd (omega arith)
next T a b (m ∷ ms) r h e f = e ∙ ap (before a) f

pub returns-in-len1-up : goal.returns-in-len1-up
returns-in-len1-up c =
    let T = values c.args.self.now in
    next T c.text.result.now c.text-in-len1-up.result.now c.args.rest.now c.lt.result c.in-len1-up.len_at_least (less c.text.result.now c.text-in-len1-up.result.now c.lt.result c.lt.ensures) c.text-in-len1-up.ensures
    ∙ ap (λ n. next_after T n c.args.rest.now) c.text.ensures
