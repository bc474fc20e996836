use Rattle.std.proofs.Common.{◌≡◌, map}
use Rattle.plane_lock.specs.declared.queues.Driver.{Driver}
use Rattle.plane_lock.specs.declared.queues.Queue.{Queue}
use Rattle.plane_lock.proofs.queues.Queues.split.Given as goal

abbrev pub invariant-loop-queue : goal.invariant-loop-queue
invariant-loop-queue l =
    (l.posters.items ≡ map (λ (q : Queue). q.poster) l.yielded)
    × (map (λ (x : Driver). x.dom) l.drivers.items ≡ map (λ (q : Queue). q.dom) l.yielded)
