use Rattle.driver_notices.proofs.Rows as rows
use Rattle.driver_notices.proofs.laws.bad_line.Goals as goal

pub returns : goal.returns
returns c = rows.bad_line
