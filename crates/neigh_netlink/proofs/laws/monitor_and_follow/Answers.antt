use Rattle.neigh_netlink.proofs.Rows as rows
use Rattle.neigh_netlink.proofs.laws.monitor_and_follow.Goals as goal

pub returns : goal.returns
returns c = record { told = rows.monitor_and_follow; followed = rows.followed_entries }
