use Rattle.timings.proofs.Lines.{own-count}
use Rattle.timings.proofs.laws.own_count.Goals as goal

pub returns : goal.returns
returns c = own-count
