use Rattle.mcast_querier.proofs.Counted.{header_is_summed}
use Rattle.mcast_querier.proofs.laws.headers_are_summed.Goals as goal

pub returns : goal.returns
returns c = header_is_summed
