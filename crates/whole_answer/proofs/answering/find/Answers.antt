use Rattle.std.proofs.Common.{List, ℕ, Err, ap, ◌∙◌, subst}
use Rattle.std.proofs.lemmas.Result.{err_from_is_err_and}
use Rattle.run_io.specs.Causes.{Rose}
use Rattle.whole_answer.specs.Answers.{Finds, SeesOr}
use Rattle.whole_answer.proofs.Answered.{caused_stopped, ends_failed, ends_found, ends_full, ends_stopped, lacks_memory}
use Rattle.whole_answer.proofs.answering.find.Goals as goal

pub returns-in-Ended-clause-answers : goal.returns-in-Ended-clause-answers
returns-in-Ended-clause-answers g c =
    let t = c.in_ok-taken.ensures.takes in
    let cause = rw c.in-Ended.is at t.cause in
    ends_found _ _ _ _ _ t.consumed c.in_ok-whole-in-Ended.field-0 cause.1 cause.0
    (subst (λ (b : List ℕ). Finds (g.A.Answer.asks c.args.answer.now) b c.in_ok-whole-in-Ended.field-0) c.as_slice-bytes.ensures.value c.in_ok-whole-in-Ended.ensures)

pub returns-in-Full-clause-answers : goal.returns-in-Full-clause-answers
returns-in-Full-clause-answers g c =
    let t = c.in_ok-taken.ensures.takes in
    let cause = rw c.in-Full.is at t.cause in
    let asked = g.A.Answer.asks c.args.answer.now in
    let failed = Rose (g.S.Source.faults c.args.source.now) (g.S.Source.faults c.take_all.new.source) in
    ends_stopped failed asked _ _ _ t.consumed _ _ t.within (ends_full failed asked _ _ _ t.consumed cause)
    (subst (λ (b : List ℕ). SeesOr (g.A.Answer.asks c.args.answer.now) b _ c.seen.result) c.as_slice-bytes.ensures.value c.seen.ensures)

pub returns-clause-answers : goal.returns-clause-answers
returns-clause-answers g c =
    let t = c.in_ok-taken.ensures.takes in
    let cause = rw c.in-ReadFault.is at t.cause in
    let asked = g.A.Answer.asks c.args.answer.now in
    ends_stopped _ asked _ _ _ t.consumed _ _ t.within (ends_failed _ asked _ _ _ t.consumed cause.1 cause.0)
    (subst (λ (b : List ℕ). SeesOr (g.A.Answer.asks c.args.answer.now) b _ c.seen-in-ReadFault.result) c.as_slice-bytes.ensures.value c.seen-in-ReadFault.ensures)

pub returns-in-Full-clause-cause : goal.returns-in-Full-clause-cause
returns-in-Full-clause-cause g c = caused_stopped _ _ _ _ _ _ c.seen.ensures (λ e. absurd (cc))

pub returns-clause-cause : goal.returns-clause-cause
returns-clause-cause g c =
    let cause = rw c.in-ReadFault.is at c.in_ok-taken.ensures.takes.cause in
    caused_stopped _ _ _ _ _ _ c.seen-in-ReadFault.ensures (λ e. cause.1)

pub returns-in_err-taken-clause-answers : goal.returns-in_err-taken-clause-answers
returns-in_err-taken-clause-answers g c =
    let err = err_from_is_err_and c.from_residual.result c.from_residual.ensures.1 in
    let t = c.in_err-taken.ensures.takes in
    lacks_memory _ _ _ _ t.input t.consumed _ (err.1 ∙ ap Err err.2)

pub returns-in_err-whole-in-Ended-clause-answers : goal.returns-in_err-whole-in-Ended-clause-answers
returns-in_err-whole-in-Ended-clause-answers g c =
    let err = err_from_is_err_and c.from_residual-in_err-whole-in-Ended.result c.from_residual-in_err-whole-in-Ended.ensures.1 in
    lacks_memory _ _ _ _ _ c.in_ok-taken.ensures.takes.consumed _ (err.1 ∙ ap Err err.2)
