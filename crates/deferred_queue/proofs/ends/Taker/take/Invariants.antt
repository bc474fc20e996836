use Rattle.std.proofs.Common.{◌≡◌}
use Rattle.deferred_queue.proofs.ends.Taker.take.Given as goal

abbrev pub invariant-loop : goal.invariant-loop
invariant-loop g l = l.self ≡ l.initial.self
