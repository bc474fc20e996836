use Rattle.mcast_querier.proofs.Silence.{yields}
use Rattle.mcast_querier.proofs.laws.yields_to_lower_addresses.Goals as goal

pub returns : goal.returns
returns c = yields
