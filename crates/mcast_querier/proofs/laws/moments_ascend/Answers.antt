use Rattle.mcast_querier.proofs.Leaving.{acts-ascend}
use Rattle.mcast_querier.proofs.laws.moments_ascend.Goals as goal

pub returns : goal.returns
returns c = acts-ascend
