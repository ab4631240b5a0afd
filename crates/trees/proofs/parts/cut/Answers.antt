use Rattle.std.proofs.Common.{◌≡◌, rules, subst}
use borrow.Author.Tests.{tests}
use Rattle.std.proofs.lemmas.Iterator.{IsFirst-from_position, YieldsList-from_slice}
use Rattle.trees.proofs.Cutting.{First, cut_here, cut_nowhere}
use Rattle.trees.proofs.parts.cut.Goals as goal

pub returns-in-Some : goal.returns-in-Some
returns-in-Some c =
    let z = c.args.separator in
    let h = IsFirst-from_position _ _ c.position.result (λ b. b ≡ z) (λ b. b ≡ z → ⊥) c.position.ensures.ran (YieldsList-from_slice c.args.bytes.now c.iter.ensures.rest) (λ x q k. search (rules, tests)) (λ x q k. search (rules, tests)) in
    cut_here z c.args.bytes.now c.in-Some.end (subst (First z c.args.bytes.now) c.in-Some.is h)

pub returns-in-None : goal.returns-in-None
returns-in-None c =
    let z = c.args.separator in
    let h = IsFirst-from_position _ _ c.position.result (λ b. b ≡ z) (λ b. b ≡ z → ⊥) c.position.ensures.ran (YieldsList-from_slice c.args.bytes.now c.iter.ensures.rest) (λ x q k. search (rules, tests)) (λ x q k. search (rules, tests)) in
    cut_nowhere z c.args.bytes.now (subst (First z c.args.bytes.now) c.in-None.is h)
