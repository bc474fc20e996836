use Rattle.std.proofs.Common.{refl}
use Rattle.mdb_snoop.proofs.Counts.{counted-none}
use Rattle.mdb_snoop.proofs.port_counts.PortCounts.none.Goals as goal

pub returns : goal.returns
returns c = counted-none _ refl
