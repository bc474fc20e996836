use Rattle.neigh_netlink.proofs.Rows as rows
use Rattle.neigh_netlink.proofs.laws.moved_entry.Goals as goal

pub returns : goal.returns
returns c = record { told = rows.moved_entry; followed = rows.followed_move; offloaded = rows.followed_offload }
