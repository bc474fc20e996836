use Rattle.std.proofs.Common.{◌+◌, ◌≤◌, Bool, length}
use Rattle.br_model.specs.Table.Limits.{most_bytes}
use Rattle.br_model.specs.Text.Scenario.{Scenario}
use Rattle.scenario_reader.specs.Passing.{GoesOn, Stands}
use Rattle.scenario_reader.proofs.whole.Reading.read.Given as goal

abbrev pub invariant-loop-rest : goal.invariant-loop-rest
invariant-loop-rest l = record {
  few : l.self.reader.lines + length l.rest ≤ most_bytes;
  goes : (check : Bool) (s : Scenario) → Stands check s l.fn.self.reader l.fn.self.steps.items → GoesOn check s l.fn.bytes l.self.reader l.self.steps.items l.rest;
}

abbrev pub decreases-loop-rest : goal.decreases-loop-rest
decreases-loop-rest l = length l.rest
