use Rattle.std.proofs.Common.{sym, ap, ◌∙◌, ◌∷◌, arith}
use Rattle.trees.proofs.Order.{shorter}
use Rattle.tools.specs.Calls.{told, answers_of}
use Rattle.tools.proofs.Turns.{choosing_not_yet, choosing_found, choosing_missing}
use Rattle.tools.proofs.choosing.choose.Goals as goal

pub returns-in_default : goal.returns-in_default
returns-in_default c = c.fetching.ensures ∙ sym (choosing_not_yet c.loop-answer.left.now (answers_of c.loop-answer.given) c.cut-paths.result c.cut-paths.ensures c.in_default.ensures) ∙ c.loop-answer.invariant.0

pub returns-in-Some-answer : goal.returns-in-Some-answer
returns-in-Some-answer c =
    c.give.ensures
    ∙ sym (choosing_found c.loop-answer.left.now (answers_of c.loop-answer.given) (answers_of c.in-Some.others) c.cut-paths.result c.in-Some-answer.text.now c.cut-paths.ensures (c.in-Some.ensures ∙ ap (λ a. told a ∷ answers_of c.in-Some.others) c.in-Some-answer.is))
    ∙ c.loop-answer.invariant.0

pub returns-in_default-rest : goal.returns-in_default-rest
returns-in_default-rest c =
    sym (choosing_missing c.loop-answer.left.now (answers_of c.loop-answer.given) (answers_of c.in-Some.others) c.cut-paths.result _ c.cut-paths.ensures c.in_default-rest.is (c.in-Some.ensures ∙ ap (λ a. told a ∷ answers_of c.in-Some.others) c.in_default-answer.is))
    ∙ c.loop-answer.invariant.0

pub loop-answer-preserved : goal.loop-answer-preserved
loop-answer-preserved c = (
  sym (choosing_missing c.loop-answer.left.now (answers_of c.loop-answer.given) (answers_of c.in-Some.others) c.cut-paths.result _ c.cut-paths.ensures c.in-Some-rest.is (c.in-Some.ensures ∙ ap (λ a. told a ∷ answers_of c.in-Some.others) c.in_default-answer.is)) ∙ c.loop-answer.invariant.0,
  omega (arith, shorter 32 c.loop-answer.left.now c.cut-paths.result c.in-Some-rest.rest c.cut-paths.ensures c.in-Some-rest.is, c.loop-answer.invariant.1),
)
