use Rattle.std.proofs.Common.{◌≤◌, length}
use Rattle.std.specs.List.{All}
use Rattle.plane_core.specs.declared.held.Held.{Held}
use Rattle.live_workers.proofs.frames.hold.Given as goal

-- what the chair knows reaches up to each floor
abbrev pub invariant-loop : goal.invariant-loop
invariant-loop g l = All (λ (h : Held). h.floor ≤ length l.chair.object.changes) l.all.items
