use Rattle.run_status.proofs.Writing.{breaks_before, breaks_behind}
use Rattle.run_status.proofs.status.end_with.Goals as goal

pub returns-in-Ok-clause-front : goal.returns-in-Ok-clause-front
returns-in-Ok-clause-front g c = λ e n. breaks_behind _ _ _ _ _ c.in-Ok.ensures.all (c.put_last.ensures.front e n)

pub returns-in-Err-clause-front : goal.returns-in-Err-clause-front
returns-in-Err-clause-front g c = λ e n. breaks_before _ _ _ _ c.in-Err.ensures.prefix
