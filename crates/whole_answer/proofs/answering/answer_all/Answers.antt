use Rattle.std.proofs.Common.{◌∙◌}
use Rattle.run_status.proofs.Ends.{calm_stops, caused}
use Rattle.whole_answer.proofs.Answered.{answer_ends, calm, caused_found}
use Rattle.whole_answer.proofs.answering.answer_all.Goals as goal

pub returns-in-Ok-clause-outcome : goal.returns-in-Ok-clause-outcome
returns-in-Ok-clause-outcome g c =
    let ends = rw c.as_bytes.ensures.value at c.put_last.ensures in
    answer_ends _ _ _ _ _ _ _ _ _ c.in-Ok.ensures.answers (λ n. ends.status n ∙ c.status.ensures) ends.whole (λ e. ends.front e (calm _ _ c.status.ensures))

pub returns-in-Ok-clause-cause : goal.returns-in-Ok-clause-cause
returns-in-Ok-clause-cause g c =
    caused _ _ _ _ _ _ c.put_last.ensures.status (λ e. c.put_last.ensures.write e (calm _ _ c.status.ensures)) (caused_found _ _ _ _ _ _ c.status.ensures)

pub returns-in-Err-clause-outcome : goal.returns-in-Err-clause-outcome
returns-in-Err-clause-outcome g c =
    let ends = rw c.line.ensures at c.put_last-in-Err.ensures in
    answer_ends _ _ _ _ _ _ _ _ _ c.in-Err.ensures.answers (λ n. ends.status n ∙ c.status-in-Err.ensures) ends.whole (λ e. ends.front e (calm_stops _ _ c.status-in-Err.ensures))
