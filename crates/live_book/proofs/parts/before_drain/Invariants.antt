use Rattle.std.proofs.Common.{◌≤◌, length}
use Rattle.live_book.proofs.Drains.{Drains}
use Rattle.live_book.proofs.parts.before_drain.Given as goal

abbrev pub invariant-loop-place : goal.invariant-loop-place
invariant-loop-place l = record {
  within : l.place ≤ length l.steps;
  drains : Drains l.steps l.place;
}

abbrev pub decreases-loop-place : goal.decreases-loop-place
decreases-loop-place l = l.place
