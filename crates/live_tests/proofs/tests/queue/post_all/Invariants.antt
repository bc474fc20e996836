use Rattle.std.proofs.Common.{◌≡◌, length}
use Rattle.live_tests.proofs.tests.queue.post_all.Given as goal

abbrev pub invariant-loop-ticket : goal.invariant-loop-ticket
invariant-loop-ticket g l = length l.poster.posted ≡ l.ticket
