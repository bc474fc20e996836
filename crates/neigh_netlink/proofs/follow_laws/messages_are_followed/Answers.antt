use Rattle.neigh_netlink.proofs.Messages.{messages-followed}
use Rattle.neigh_netlink.proofs.follow_laws.messages_are_followed.Goals as goal

pub returns : goal.returns
returns c = messages-followed
