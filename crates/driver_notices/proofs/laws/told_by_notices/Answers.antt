use Rattle.driver_notices.proofs.Deliveries.{told-delivered}
use Rattle.driver_notices.proofs.laws.told_by_notices.Goals as goal

pub returns : goal.returns
returns c = told-delivered
