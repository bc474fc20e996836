use Rattle.std.proofs.Common.{◌+◌, ◌≤◌, false, length, string_bytes}
use Rattle.br_model.specs.Table.Limits.{most_bytes}
use Rattle.br_model.specs.Text.Scenario.{opened}
use Rattle.scenario_play.specs.Playing.{GoesOn, played}
use Rattle.scenario_play.proofs.play.Play.read.Given as goal

abbrev pub invariant-loop-front : goal.invariant-loop-front
invariant-loop-front g l = record {
  few : l.self.reader.lines + length l.rest ≤ most_bytes;
  goes : GoesOn (opened false) l.fn.bytes (played l.self (g.W.Stage.stands l.stage) (string_bytes l.text)) l.rest;
}

abbrev pub decreases-loop-front : goal.decreases-loop-front
decreases-loop-front g l = length l.rest
