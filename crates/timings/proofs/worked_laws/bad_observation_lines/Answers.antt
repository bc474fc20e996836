use Rattle.timings.proofs.Worked.{refuses-bad}
use Rattle.timings.proofs.worked_laws.bad_observation_lines.Goals as goal

pub returns : goal.returns
returns c = refuses-bad
