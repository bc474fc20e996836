use Rattle.scenario_reader.proofs.ScenarioPorts.{ports_are_declared}
use Rattle.scenario_reader.proofs.laws.scenario_ports_are_declared.Goals as goal

pub returns : goal.returns
returns c = ports_are_declared
