use Rattle.std.proofs.Common.{◌≡◌}
use Rattle.live_tests.proofs.tests.queue.takes_what_was_told.Given as goal

abbrev pub invariant-loop : goal.invariant-loop
invariant-loop g l = (l.taker.queue ≡ l.fn.taker.queue) × (l.taker.past ≡ l.fn.taker.past)
