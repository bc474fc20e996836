use Rattle.driver_notices.proofs.RunLines.{run-reached}
use Rattle.driver_notices.proofs.laws.lines_reach_the_chips.Goals as goal

pub returns : goal.returns
returns c = run-reached
