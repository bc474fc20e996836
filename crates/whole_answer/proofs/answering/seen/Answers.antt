use Rattle.std.proofs.Common.{Option, subst}
use Rattle.whole_answer.specs.declared.answer.Found.{Found}
use Rattle.whole_answer.specs.Answers.{Sees}
use Rattle.whole_answer.proofs.Answered.{sees_none}
use Rattle.whole_answer.proofs.answering.seen.Goals as goal

pub returns-in-Some : goal.returns-in-Some
returns-in-Some g c = subst (λ (o : Option Found). Sees (g.A.Answer.asks c.args.answer.now) c.args.bytes.now o) c.in-Some.is c.in_ok-found.ensures

pub returns-in-None : goal.returns-in-None
returns-in-None g c =
    sees_none (g.A.Answer.asks c.args.answer.now) c.args.bytes.now c.args.stop
    (subst (λ (o : Option Found). Sees (g.A.Answer.asks c.args.answer.now) c.args.bytes.now o) c.in-None.is c.in_ok-found.ensures)
