use Rattle.live_thread.proofs.Loops.{TurnsBelow}
use Rattle.live_thread.proofs.drain.turn_chips.Given as goal

abbrev pub invariant-loop-number : goal.invariant-loop-number
invariant-loop-number l = TurnsBelow l.initial.ran l.ran l.number
