use Rattle.std.proofs.Common.{◌≡◌, length}
use Rattle.live_book.proofs.Following.{AllFollow}
use Rattle.live_book.proofs.lanes.follow.Given as goal

abbrev pub invariant-loop-step : goal.invariant-loop-step
invariant-loop-step l = record {
  lanes : length l.heads ≡ length l.fn.heads;
  follow : AllFollow l.later l.given l.step-index l.heads;
}
