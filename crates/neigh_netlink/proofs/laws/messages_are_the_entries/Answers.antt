use Rattle.neigh_netlink.proofs.Told.{messages-tell}
use Rattle.neigh_netlink.proofs.laws.messages_are_the_entries.Goals as goal

pub returns : goal.returns
returns c = messages-tell
