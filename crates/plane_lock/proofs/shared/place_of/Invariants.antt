use Rattle.std.proofs.Common.{◌≡◌, ◌==◌, true, drop, map}
use Rattle.std.specs.List.{list_any}
use Rattle.plane_lock.specs.declared.queues.Driver.{Driver}
use Rattle.plane_lock.proofs.shared.place_of.Given as goal

abbrev pub invariant-loop-place : goal.invariant-loop-place
invariant-loop-place l = list_any (λ k. k == l.d) (map (λ (x : Driver). x.dom) (drop l.place l.drivers)) ≡ true
