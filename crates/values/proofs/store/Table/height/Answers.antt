use Rattle.std.proofs.Common.{◌≡◌, ℕ, ◌≤◌, List, sym, refl, ap, subst, ◌∙◌, arith}
use Rattle.values.specs.Limits.{height}
use Rattle.values.specs.Values.{Value}
use Rattle.values.specs.Nodes.{node_value}
use Rattle.values.specs.declared.parts.Member.{Member}
use Rattle.values.specs.declared.nodes.Node.{Node}
use Rattle.values.specs.declared.nodes.Node.TheVariants.{Truth, Text, Binding}
use Rattle.values.proofs.InMemory.{binding_at, fact_at, under_past, low_of, item, item_past}
use Rattle.values.proofs.store.Table.height.Goals as goal

-- what is no binding has no height
flat : (bs : List ℕ) (ms : List Member) (T : List Value) (n : Node) → ((x : _) (h : _) → n ≡ Binding x h → ⊥) → height (node_value bs ms T n) ≡ 0
flat bs ms T (Truth b) h = refl
flat bs ms T (Text s) h = refl
flat bs ms T (Binding s k) h = absurd (h s k refl)

pub returns-in_default-clause-is : goal.returns-in_default-clause-is
returns-in_default-clause-is c =
    let t = c.args.self.now in
    sym (ap height (under_past t c.args.n (item_past t c.args.n c.deref.result.now c.deref.ensures.value c.in_default.ensures.lookup.0)))

pub returns-in-Binding-clause-is : goal.returns-in-Binding-clause-is
returns-in-Binding-clause-is c =
    let t = c.args.self.now in
    let x = c.in-Some.node.now in
    let at = item t c.args.n c.deref.result.now x c.deref.ensures.value c.in-Some.ensures.lookup.0 c.in-Some.ensures.lookup.1 in
    (binding_at t c.args.n _ c.in-Binding.height x at c.in-Binding.is).high

pub returns-in-Binding-clause-low : goal.returns-in-Binding-clause-low
returns-in-Binding-clause-low c =
    let t = c.args.self.now in
    let x = c.in-Some.node.now in
    let at = item t c.args.n c.deref.result.now x c.deref.ensures.value c.in-Some.ensures.lookup.0 c.in-Some.ensures.lookup.1 in
    subst (λ h. h ≤ 16) (sym (binding_at t c.args.n _ c.in-Binding.height x at c.in-Binding.is).high) (low_of t c.args.n at.there)

pub returns-in_default-node : goal.returns-in_default-node
returns-in_default-node c =
    let t = c.args.self.now in
    let x = c.in-Some.node.now in
    let at = item t c.args.n c.deref.result.now x c.deref.ensures.value c.in-Some.ensures.lookup.0 c.in-Some.ensures.lookup.1 in
    let f = fact_at t c.args.n x x at refl in
    record { is = sym (ap height f.value ∙ flat _ _ _ x c.in_default-node.not-Binding); low = omega arith }
