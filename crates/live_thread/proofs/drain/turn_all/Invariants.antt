use Rattle.live_thread.proofs.Loops.{Turns}
use Rattle.live_thread.proofs.Telling.{pending_left}
use Rattle.live_thread.proofs.drain.turn_all.Given as goal

abbrev pub invariant-loop-alloc : goal.invariant-loop-alloc
invariant-loop-alloc l = Turns l.initial.ran l.ran l.dom

abbrev pub decreases-loop-alloc : goal.decreases-loop-alloc
decreases-loop-alloc l = pending_left l.ran l.dom
