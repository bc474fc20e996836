use Rattle.timings.proofs.Timing.{timed-alike}
use Rattle.timings.proofs.laws.timings_agree.Goals as goal

pub returns : goal.returns
returns c = timed-alike
