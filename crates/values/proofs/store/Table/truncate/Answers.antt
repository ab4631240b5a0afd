use Rattle.std.proofs.Common.{◌≡◌, max, ltb, take, sym, ap, ◌∙◌, arith, rules}
use borrow.Author.Tests.{tests}
use Rattle.std.proofs.lemmas.List.{take_all}
use Rattle.std.proofs.lemmas.Fn.{filter_same}
use Rattle.values.specs.Memory.{values}
use Rattle.values.proofs.InMemory.{length_of}
use Rattle.values.proofs.Steps.{cut_of, length_cut}
use Rattle.values.proofs.store.Table.truncate.Goals as goal

pub returns-then-count-len : goal.returns-then-count-len
returns-then-count-len c = sym (take_all (max 2 c.args.len) (values c.args.self.now) (omega (arith, length_of c.args.self.now)))

pub invariant_of-self : goal.invariant_of-self
invariant_of-self c =
    let t = c.args.self.now in
    let kept = filter_same _ (λ x. ltb x c.max-count.result) _ (λ x b q k. search (rules, tests)) _ _ c.retain.ensures.filtered in
    let parts = cut_of t c.max-count.result c.ends-bytes.result.0 c.ends-bytes.result.1 _ _ _ _ (omega arith) (omega arith) (ap (λ e. e.0) c.ends-bytes.ensures) (ap (λ e. e.1) c.ends-bytes.ensures)
    c.truncate.ensures.items c.truncate-2.ensures.items c.truncate-3.ensures.items kept in
    record {
      room = search rules;
      few = search rules;
      paired = omega (arith, length_cut t c.max-count.result _ (omega arith) kept, c.retain.new.self.ok.0, c.truncate-3.ensures.len);
      sound = parts.sound;
      indexed = parts.indexed;
    }

pub returns : goal.returns
unfolding values
returns c =
    let t = c.args.self.now in
    let kept = filter_same _ (λ x. ltb x c.max-count.result) _ (λ x b q k. search (rules, tests)) _ _ c.retain.ensures.filtered in
    let parts = cut_of t c.max-count.result c.ends-bytes.result.0 c.ends-bytes.result.1 _ _ _ _ (omega arith) (omega arith) (ap (λ e. e.0) c.ends-bytes.ensures) (ap (λ e. e.1) c.ends-bytes.ensures)
    c.truncate.ensures.items c.truncate-2.ensures.items c.truncate-3.ensures.items kept in
    let same : c.max-count.result ≡ max 2 c.args.len = omega arith in
    parts.values ∙ ap (λ k. take k (values t)) same
