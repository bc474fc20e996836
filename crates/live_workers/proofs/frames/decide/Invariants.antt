use Rattle.std.proofs.Common.{◌≤◌, length}
use Rattle.table_publish.specs.Object.{Begins}
use Rattle.live_workers.proofs.frames.decide.Given as goal

-- what the chair knows reaches up to the floor, and begins with what it knew
abbrev pub invariant-loop : goal.invariant-loop
invariant-loop g l = (l.held.floor ≤ length l.chair.object.changes) × Begins l.chair.object l.initial.chair.object
