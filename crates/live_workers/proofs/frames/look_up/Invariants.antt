use Rattle.std.proofs.Common.{◌≤◌, length}
use Rattle.std.specs.List.{All}
use Rattle.plane_core.specs.declared.held.Held.{Held}
use Rattle.plane_lock.specs.Posts.{IsSeen}
use Rattle.live_workers.specs.declared.frames.Looked.{Looked}
use Rattle.live_workers.proofs.frames.look_up.Given as goal

-- what the chair knows reaches up to the floor of each frame that is left, and agrees with what was looked up
abbrev pub invariant-loop-held : goal.invariant-loop-held
invariant-loop-held g l =
    All (λ (h : Held). h.floor ≤ length l.chair.object.changes) l.held-iterator.rest.items
    × All (λ (x : Looked). IsSeen g.N.Name.board.domains l.chair.object x.held x.seen) l.all.items
