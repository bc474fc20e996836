use Rattle.std.proofs.Common.{◌≡◌}
use Rattle.plane_lock.specs.Posted.{updates_of}
use Rattle.live_tests.proofs.tests.lock.queue_of.Given as goal

abbrev pub invariant-loop : goal.invariant-loop
invariant-loop g l = (l.poster.posted ≡ updates_of l.ran) × (l.poster.queue ≡ l.taker.queue)
