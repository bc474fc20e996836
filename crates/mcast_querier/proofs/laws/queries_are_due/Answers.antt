use Rattle.mcast_querier.proofs.Leaving.{sent-due}
use Rattle.mcast_querier.proofs.laws.queries_are_due.Goals as goal

pub returns : goal.returns
returns c = sent-due
