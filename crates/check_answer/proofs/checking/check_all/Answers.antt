use Rattle.std.proofs.Common.{◌∙◌}
use Rattle.check_answer.proofs.CheckEnds.{calm_said, caused_said, check_ends}
use Rattle.run_status.proofs.Ends.{calm_stops, caused}
use Rattle.check_answer.proofs.checking.check_all.Goals as goal

pub returns-in-Ok-clause-outcome : goal.returns-in-Ok-clause-outcome
returns-in-Ok-clause-outcome g c =
    let ends = rw c.as_slice.ensures.value at c.put_last.ensures in
    check_ends _ _ _ _ _ _ _ _ c.in-Ok.ensures.checks ends.status ends.whole (λ e. ends.front e (calm_said _ c.in-Ok.ensures.said))

pub returns-in-Ok-clause-cause : goal.returns-in-Ok-clause-cause
returns-in-Ok-clause-cause g c =
    caused _ _ _ _ _ _ c.put_last.ensures.status (λ e. c.put_last.ensures.write e (calm_said _ c.in-Ok.ensures.said)) (caused_said _ _ _ _ _ c.in-Ok.ensures.said)

pub returns-in-Err-clause-outcome : goal.returns-in-Err-clause-outcome
returns-in-Err-clause-outcome g c =
    let ends = rw c.line.ensures at c.put_last-in-Err.ensures in
    check_ends _ _ _ _ _ _ _ _ c.in-Err.ensures.checks (λ n. ends.status n ∙ c.status.ensures) ends.whole (λ e. ends.front e (calm_stops _ _ c.status.ensures))
