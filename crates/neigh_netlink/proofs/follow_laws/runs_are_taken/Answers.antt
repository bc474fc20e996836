use Rattle.neigh_netlink.proofs.TakenRuns.{run-followed, run-taken}
use Rattle.neigh_netlink.proofs.follow_laws.runs_are_taken.Goals as goal

pub returns : goal.returns
returns c = record { taken = run-taken; followed = run-followed }
