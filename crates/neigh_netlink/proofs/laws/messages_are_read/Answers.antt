use Rattle.neigh_netlink.proofs.Readings.{read-written}
use Rattle.neigh_netlink.proofs.laws.messages_are_read.Goals as goal

pub returns : goal.returns
returns c = read-written
