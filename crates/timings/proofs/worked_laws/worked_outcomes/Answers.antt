use Rattle.timings.proofs.Worked.{outcomes-meanwhile}
use Rattle.timings.proofs.worked_laws.worked_outcomes.Goals as goal

pub returns : goal.returns
returns c = outcomes-meanwhile
