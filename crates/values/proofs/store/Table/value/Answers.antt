use Rattle.std.proofs.Common.{◌≡◌, Some, sym, ap, ◌∙◌, arith}
use mathlib.Core.Option.{some}
use Rattle.values.specs.Values.{text, binding}
use Rattle.values.specs.Table.{under, content_value, known_content, known, members_of, shown}
use Rattle.values.specs.Nodes.{part}
use Rattle.values.specs.Memory.{values}
use Rattle.values.proofs.InMemory.{truth_at, text_at, binding_at, nth_of, nth_none, proper_of, item, item_past}
use Rattle.values.proofs.store.Table.value.Goals as goal
use Rattle.values.proofs.store.Table.value.Goals.{in-Truth, in-Text, in-Binding}

pub returns-in_err-b-clause-is : goal.returns-in_err-b-clause-is
returns-in_err-b-clause-is c =
    let t = c.args.self.now in
    ap (shown (values t)) c.from_residual.ensures ∙ sym (nth_none t c.args.n (item_past t c.args.n c.deref.result.now c.deref.ensures.value c.in_err-b.ensures.lookup.0))

pub returns-in_err-b-clause-proper : goal.returns-in_err-b-clause-proper
returns-in_err-b-clause-proper c = proper_of c.args.self.now c.args.n

pub of-requires : goal.of-requires
of-requires c =
    let t = c.args.self.now in
    let x = c.in_ok-b.field-0.now in
    let at = item t c.args.n c.deref.result.now x c.deref.ensures.value c.in_ok-b.ensures.lookup.0 c.in_ok-b.ensures.lookup.1 in
    omega (arith, c.deref-in-Text.ensures.len, t.bytes.ok.0, (text_at t c.args.n c.in-Text.s x at c.in-Text.is).end)

pub of-requires-in-Binding : goal.of-requires-in-Binding
of-requires-in-Binding c =
    let t = c.args.self.now in
    let x = c.in_ok-b.field-0.now in
    let at = item t c.args.n c.deref.result.now x c.deref.ensures.value c.in_ok-b.ensures.lookup.0 c.in_ok-b.ensures.lookup.1 in
    omega (arith, c.deref-in-Binding.ensures.len, t.members.ok.0, (binding_at t c.args.n c.in-Binding.s _ x at c.in-Binding.is).end)

pub returns-clause-is : goal.returns-clause-is
returns-clause-is c =
    let t = c.args.self.now in
    let x = c.in_ok-b.field-0.now in
    let at = item t c.args.n c.deref.result.now x c.deref.ensures.value c.in_ok-b.ensures.lookup.0 c.in_ok-b.ensures.lookup.1 in
    let shows : content_value (values t) c.match-branch-2.content ≡ under (values t) c.args.n =
    elim c.match-branch-2.branch [
      | in-Truth w ↦ ap (content_value (values t)) w.content-is ∙ sym (truth_at t c.args.n _ x at w.in-Truth.is)
      | in-Text w ↦ ap (content_value (values t)) w.content-is ∙ ap text (w.of.ensures ∙ ap (λ bs. part bs w.in-Text.s) w.deref-in-Text.ensures.value) ∙ sym (text_at t c.args.n w.in-Text.s x at w.in-Text.is).value
      | in-Binding w ↦ ap (content_value (values t)) w.content-is
          ∙ ap (λ ms. binding (members_of (values t) ms)) (w.of-in-Binding.ensures ∙ ap (λ ms. part ms w.in-Binding.s) w.deref-in-Binding.ensures.value)
          ∙ sym (binding_at t c.args.n w.in-Binding.s _ x at w.in-Binding.is).value
    ] in
    ap some shows ∙ sym (nth_of t c.args.n at.there)

pub returns-clause-known : goal.returns-clause-known
returns-clause-known c =
    let t = c.args.self.now in
    let x = c.in_ok-b.field-0.now in
    let at = item t c.args.n c.deref.result.now x c.deref.ensures.value c.in_ok-b.ensures.lookup.0 c.in_ok-b.ensures.lookup.1 in
    elim c.match-branch-2.branch [
      | in-Truth w ↦ ap (λ k. known_content (values t) (Some k)) w.content-is
      | in-Text w ↦ ap (λ k. known_content (values t) (Some k)) w.content-is
      | in-Binding w ↦ ap (λ k. known_content (values t) (Some k)) w.content-is
          ∙ ap (known (values t)) (w.of-in-Binding.ensures ∙ ap (λ ms. part ms w.in-Binding.s) w.deref-in-Binding.ensures.value)
          ∙ (binding_at t c.args.n w.in-Binding.s _ x at w.in-Binding.is).known
    ]

pub returns-clause-proper : goal.returns-clause-proper
returns-clause-proper c = proper_of c.args.self.now c.args.n
