use Rattle.pcapng_read.proofs.Rows.{read_worked}
use Rattle.pcapng_read.proofs.laws.worked_captures.Goals as goal

pub returns : goal.returns
returns c = read_worked
