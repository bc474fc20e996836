use Rattle.std.proofs.Common.{◌≡◌, ◌+◌, length}
use Rattle.live_workers.proofs.run.seat_all.Given as goal

-- each seat that is gone is a worker's
abbrev pub invariant-loop-number : goal.invariant-loop-number
invariant-loop-number g l =
    (l.seats.board ≡ l.initial.seats.board) × (l.number + l.seats.left ≡ l.initial.seats.left) × (length l.all.items ≡ l.number)
