use Rattle.std.proofs.Common.{take}
use Rattle.transcript_lines.specs.Rows.{expand}
use Rattle.scenario_runner.specs.Counting.{Adds}
use Rattle.scenario_runner.proofs.demo.Tally.add_all.Given as goal

abbrev pub invariant-loop-row : goal.invariant-loop-row
invariant-loop-row l = Adds l.fn.self (expand l.arena (take l.row-index l.rows)) l.self
