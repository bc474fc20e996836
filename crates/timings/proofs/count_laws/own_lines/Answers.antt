use Rattle.timings.proofs.Explaining.{timing-own}
use Rattle.timings.proofs.count_laws.own_lines.Goals as goal

pub returns : goal.returns
returns c = timing-own
