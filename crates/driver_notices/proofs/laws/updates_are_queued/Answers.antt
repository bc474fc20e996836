use Rattle.driver_notices.proofs.RunLines.{run-queued}
use Rattle.driver_notices.proofs.laws.updates_are_queued.Goals as goal

pub returns : goal.returns
returns c = run-queued
