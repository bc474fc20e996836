use Rattle.std.proofs.Common.{◌≤◌, length}
use Rattle.live_book.proofs.Openings.{Comes}
use Rattle.live_book.proofs.parts.first_part.Given as goal

abbrev pub invariant-loop-place : goal.invariant-loop-place
invariant-loop-place l = record {
  taken : l.taken ≤ length l.opening;
  comes : Comes l.opening l.steps l.taken l.place;
}
