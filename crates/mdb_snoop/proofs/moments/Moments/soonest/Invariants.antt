use Rattle.std.proofs.Common.{◌≡◌}
use Rattle.std.specs.Prelude.{slice_index}
use Rattle.mdb_snoop.proofs.Mapped.{mapped}
use Rattle.mdb_snoop.specs.Soonest.{soonest_moment}
use Rattle.mdb_snoop.proofs.moments.Moments.soonest.Given as goal

abbrev pub invariant-loop-port : goal.invariant-loop-port
invariant-loop-port l = l.soonest ≡ soonest_moment (mapped (slice_index l.self-inside.moments) l.yielded)
