use Rattle.stp_core.proofs.PlaceLaws.{Found}
use Rattle.stp_core.proofs.places.ports_where.Given as goal

-- the members are those below p that pass
abbrev pub invariant-loop-p : goal.invariant-loop-p
invariant-loop-p g l = Found (g.T.Test.holds l.test) l.places l.ports l.p
