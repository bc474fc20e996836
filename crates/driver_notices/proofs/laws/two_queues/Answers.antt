use Rattle.driver_notices.proofs.Rows as rows
use Rattle.driver_notices.proofs.laws.two_queues.Goals as goal

pub returns : goal.returns
returns c = rows.two_queues
