use Rattle.neigh_netlink.proofs.FollowedLines.{line-read, rest-read}
use Rattle.neigh_netlink.proofs.laws.lines_are_read.Goals as goal

pub returns : goal.returns
returns c = record { line = line-read; rest = rest-read }
