use Rattle.std.proofs.Common.{◌≡◌}
use Rattle.std.specs.Ordering.{nat_cmp}
use Rattle.br_model.specs.Data.Maps.{get}
use Rattle.mdb_snoop.proofs.Mapped.{mapped}
use Rattle.mdb_snoop.specs.Soonest.{soonest_member}
use Rattle.mdb_snoop.proofs.moments.Moments.soonest_of.Given as goal

abbrev pub invariant-loop-port : goal.invariant-loop-port
invariant-loop-port l = l.soonest ≡ soonest_member (mapped (get nat_cmp l.self) l.yielded)
