use Rattle.std.proofs.Common.{◌≡◌, ◌<◌, ◌≤◌, length, ◌++◌, sym, ap, ◌∙◌, subst, ◌∷◌, arith, rules, length-append}
use Rattle.trees.proofs.Order.{shorter}
use Rattle.tools.specs.Calls.{told, answers_of}
use Rattle.tools.proofs.Turns.{joining_not_yet, joining_missing, joining_more, joining_long, too_long}
use Rattle.tools.proofs.joining.join.Goals as goal

pub returns-in_default : goal.returns-in_default
returns-in_default c = c.fetching.ensures ∙ sym (joining_not_yet c.loop-answer.out.items c.loop-answer.left.now (answers_of c.loop-answer.given) c.cut-paths.result c.cut-paths.ensures c.in_default.ensures) ∙ c.loop-answer.invariant.0

pub returns-in_default-answer : goal.returns-in_default-answer
returns-in_default-answer c =
    sym (joining_missing c.loop-answer.out.items c.loop-answer.left.now (answers_of c.loop-answer.given) (answers_of c.in-Some.others) c.cut-paths.result c.cut-paths.ensures (c.in-Some.ensures ∙ ap (λ a. told a ∷ answers_of c.in-Some.others) c.in_default-answer.is))
    ∙ c.loop-answer.invariant.0

pub returns-then-is_err : goal.returns-then-is_err
returns-then-is_err c =
    let long : 1024 < length (c.loop-answer.out.items ++ c.in-Some-answer.piece.now) = subst (λ n. 1024 < n) (sym (length-append c.loop-answer.out.items c.in-Some-answer.piece.now)) (too_long _ c.if-is_err.ensures.negation c.try_extend_from_slice.ensures.variant.1) in
    sym (joining_long c.loop-answer.out.items c.loop-answer.left.now (answers_of c.loop-answer.given) (answers_of c.in-Some.others) c.cut-paths.result c.in-Some-answer.piece.now c.cut-paths.ensures (c.in-Some.ensures ∙ ap (λ a. told a ∷ answers_of c.in-Some.others) c.in-Some-answer.is) long)
    ∙ c.loop-answer.invariant.0

pub returns-in_default-rest : goal.returns-in_default-rest
returns-in_default-rest c =
    let fits : length (c.loop-answer.out.items ++ c.in-Some-answer.piece.now) ≤ 1024 = omega (arith, length-append c.loop-answer.out.items c.in-Some-answer.piece.now, c.try_extend_from_slice.ensures.variant.0 c.if-is_err.ensures.negation) in
    let more : c.as_slice.result.now ≡ c.loop-answer.out.items ++ c.in-Some-answer.piece.now = search rules in
    sym (joining_more c.loop-answer.out.items c.loop-answer.left.now (answers_of c.loop-answer.given) (answers_of c.in-Some.others) c.cut-paths.result _ c.in-Some-answer.piece.now c.as_slice.result.now c.cut-paths.ensures c.in_default-rest.is (c.in-Some.ensures ∙ ap (λ a. told a ∷ answers_of c.in-Some.others) c.in-Some-answer.is) fits more)
    ∙ c.loop-answer.invariant.0

pub loop-answer-preserved : goal.loop-answer-preserved
loop-answer-preserved c =
    let fits : length (c.loop-answer.out.items ++ c.in-Some-answer.piece.now) ≤ 1024 = omega (arith, length-append c.loop-answer.out.items c.in-Some-answer.piece.now, c.try_extend_from_slice.ensures.variant.0 c.if-is_err.ensures.negation) in
    let more : c.try_extend_from_slice.new.self.items ≡ c.loop-answer.out.items ++ c.in-Some-answer.piece.now = search rules in (
      sym (joining_more c.loop-answer.out.items c.loop-answer.left.now (answers_of c.loop-answer.given) (answers_of c.in-Some.others) c.cut-paths.result _ c.in-Some-answer.piece.now c.try_extend_from_slice.new.self.items c.cut-paths.ensures c.in-Some-rest.is (c.in-Some.ensures ∙ ap (λ a. told a ∷ answers_of c.in-Some.others) c.in-Some-answer.is) fits more) ∙ c.loop-answer.invariant.0,
      omega (arith, shorter 32 c.loop-answer.left.now c.cut-paths.result c.in-Some-rest.rest c.cut-paths.ensures c.in-Some-rest.is, c.loop-answer.invariant.1),
    )
