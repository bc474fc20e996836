use Rattle.std.proofs.Common.{◌≡◌, ◌≤◌, length}
use Rattle.live_book.specs.Lanes.{AreHeads, AreLinks}
use Rattle.live_book.proofs.lanes.link.Given as goal

abbrev pub invariant-loop-place : goal.invariant-loop-place
invariant-loop-place l = record {
  within : l.place ≤ length l.steps;
  lanes : length l.heads ≡ length l.fn.heads;
  count : length l.links ≡ length l.steps;
  heads : AreHeads l.steps l.place l.heads;
  links : AreLinks l.steps l.place l.links;
}

abbrev pub decreases-loop-place : goal.decreases-loop-place
decreases-loop-place l = l.place
