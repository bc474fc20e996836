use Rattle.live_thread.proofs.Loops.{Reports}
use Rattle.live_thread.proofs.Telling.{reports_left}
use Rattle.live_thread.proofs.drain.report_all.Given as goal

abbrev pub invariant-loop-report : goal.invariant-loop-report
invariant-loop-report l = Reports l.initial.ran l.ran l.dom

abbrev pub decreases-loop-report : goal.decreases-loop-report
decreases-loop-report l = reports_left l.ran l.dom
