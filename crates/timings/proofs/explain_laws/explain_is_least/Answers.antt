use Rattle.timings.proofs.Explaining.{least}
use Rattle.timings.proofs.explain_laws.explain_is_least.Goals as goal

pub returns : goal.returns
returns c = record { yes = least }
