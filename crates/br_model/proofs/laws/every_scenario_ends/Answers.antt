use Rattle.br_model.proofs.Text.Endings.{every_ends}
use Rattle.br_model.proofs.laws.every_scenario_ends.Goals as goal

pub returns : goal.returns
returns c = every_ends
