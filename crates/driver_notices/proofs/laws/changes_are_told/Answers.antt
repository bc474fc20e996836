use Rattle.driver_notices.proofs.RunLines.{run-told}
use Rattle.driver_notices.proofs.laws.changes_are_told.Goals as goal

pub returns : goal.returns
returns c = run-told
