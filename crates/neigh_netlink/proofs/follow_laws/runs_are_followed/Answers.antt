use Rattle.neigh_netlink.proofs.WholeRuns.{lined-followed, run-whole}
use Rattle.neigh_netlink.proofs.follow_laws.runs_are_followed.Goals as goal

pub returns : goal.returns
returns c = record { whole = run-whole; followed = lined-followed }
