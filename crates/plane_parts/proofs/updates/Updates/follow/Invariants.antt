use Rattle.std.proofs.Common.{◌≡◌, take}
use Rattle.plane_parts.specs.Places.{places}
use Rattle.plane_parts.proofs.updates.Updates.follow.Given as goal

abbrev pub invariant-loop-place : goal.invariant-loop-place
invariant-loop-place l = l.self ≡ places l.edition (take l.place l.history)
