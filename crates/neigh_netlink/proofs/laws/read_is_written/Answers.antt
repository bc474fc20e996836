use Rattle.neigh_netlink.proofs.Readings.{read-is}
use Rattle.neigh_netlink.proofs.laws.read_is_written.Goals as goal

pub returns : goal.returns
returns c = read-is
