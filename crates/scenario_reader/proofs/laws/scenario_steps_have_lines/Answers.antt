use Rattle.scenario_reader.proofs.ScenarioLines.{steps_have_lines}
use Rattle.scenario_reader.proofs.laws.scenario_steps_have_lines.Goals as goal

pub returns : goal.returns
returns c = steps_have_lines
