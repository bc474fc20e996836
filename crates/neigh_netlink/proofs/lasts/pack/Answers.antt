use Rattle.open_addressing.specs.Pairs.{packed}
use Rattle.neigh_netlink.proofs.lasts.pack.Goals as goal

pub returns-clause-value : goal.returns-clause-value
unfolding packed
returns-clause-value c = c.in_vlan.ensures.value
