use Rattle.driver_notices.proofs.OwnSteps.{run-own}
use Rattle.driver_notices.proofs.StepLines.{step-accepted, step-reached}
use Rattle.driver_notices.proofs.laws.lines_stand_under_their_step.Goals as goal

pub returns : goal.returns
returns c = record { own = run-own; accepted = step-accepted; reached = step-reached }
