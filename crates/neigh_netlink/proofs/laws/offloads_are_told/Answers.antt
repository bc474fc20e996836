use Rattle.neigh_netlink.proofs.Told.{entries-told}
use Rattle.neigh_netlink.proofs.laws.offloads_are_told.Goals as goal

pub returns : goal.returns
returns c = entries-told
