use Rattle.neigh_netlink.proofs.FewMessages.{lines-few}
use Rattle.neigh_netlink.proofs.follow_laws.run_lines_fit.Goals as goal

pub returns : goal.returns
returns c = lines-few
