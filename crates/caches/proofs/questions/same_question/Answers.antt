use Rattle.caches.proofs.Deciding.{question_decides}
use Rattle.caches.proofs.questions.same_question.Goals as goal

pub returns : goal.returns
returns c = question_decides c.args.a.now c.args.b.now c.eq.result c.eq.ensures
