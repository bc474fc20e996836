use Rattle.std.proofs.Common.{length}
use Rattle.fdb_core.specs.Places.{IsTold}
use Rattle.fdb_core.proofs.ages.settle.Given as goal

abbrev pub invariant-loop-place : goal.invariant-loop-place
invariant-loop-place l =
    IsTold l.fn.ages.complete l.fn.ages.latest l.fn.ages.places.items l.entries.entries → IsTold l.ages.complete l.ages.latest l.ages.places.items l.entries.entries

abbrev pub decreases-loop-place : goal.decreases-loop-place
decreases-loop-place l = length l.ages.places.items
