use Rattle.driver_notices.proofs.Rows as rows
use Rattle.driver_notices.proofs.laws.station.Goals as goal

pub returns : goal.returns
returns c = rows.station
