use Rattle.std.proofs.Common.{◌≡◌, length}
use Rattle.plane_record.specs.Pasts.{world_of}
use Rattle.live_thread.proofs.Loops.{Serves}
use Rattle.live_thread.proofs.drain.serve_all.Given as goal

abbrev pub invariant-loop-alloc : goal.invariant-loop-alloc
invariant-loop-alloc l = record {
  serves : Serves l.initial.ran l.ran;
  seat : l.seat.board ≡ l.ran.board;
  same : l.seat.board ≡ l.initial.seat.board;
}

abbrev pub decreases-loop-alloc : goal.decreases-loop-alloc
decreases-loop-alloc l = length (world_of l.ran).waiting
