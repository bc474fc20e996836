use Rattle.std.proofs.Common.{◌≡◌, take}
use Rattle.mdb_snoop.specs.Places.{flat}
use Rattle.mdb_snoop.specs.Soonest.{soonest_member}
use Rattle.mdb_snoop.proofs.sections.soonest.Given as goal

abbrev pub invariant-loop-section : goal.invariant-loop-section
invariant-loop-section l = l.soonest ≡ soonest_member (flat (take l.section-index l.sections))
