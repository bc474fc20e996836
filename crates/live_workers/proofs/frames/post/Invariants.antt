use Rattle.std.specs.List.{All}
use Rattle.plane_lock.specs.Posts.{IsSeen}
use Rattle.live_workers.specs.declared.frames.Looked.{Looked}
use Rattle.live_workers.proofs.frames.post.Given as goal

-- what the chair knows agrees with what was looked up for the frames that are left
abbrev pub invariant-loop-held : goal.invariant-loop-held
invariant-loop-held g l = All (λ (x : Looked). IsSeen g.N.Name.board.domains l.chair.object x.held x.seen) l.held-iterator.rest.items
