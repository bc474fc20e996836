use Rattle.live_thread.proofs.Loops.{ReportsBelow}
use Rattle.live_thread.proofs.drain.report_chips.Given as goal

abbrev pub invariant-loop-number : goal.invariant-loop-number
invariant-loop-number l = ReportsBelow l.initial.ran l.ran l.number
