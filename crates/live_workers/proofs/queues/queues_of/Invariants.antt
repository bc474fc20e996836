use Rattle.std.proofs.Common.{◌≡◌, map, take}
use Rattle.std.specs.List.{All}
use Rattle.plane_lock.specs.declared.queues.Queue.{Queue}
use Rattle.plane_lock.specs.Posted.{updates_of}
use Rattle.live_workers.proofs.queues.queues_of.Given as goal

-- a queue for each of the first ones
abbrev pub invariant-loop-dom : goal.invariant-loop-dom
invariant-loop-dom g l =
    (map (λ (q : Queue). q.dom) l.queues ≡ take l.dom-index l.chips) × All (λ (q : Queue). q.poster.posted ≡ updates_of l.ran) l.queues
