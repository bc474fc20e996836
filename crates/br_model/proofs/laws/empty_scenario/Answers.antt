use Rattle.br_model.proofs.Worked.Rows.{empty_scenario}
use Rattle.br_model.proofs.laws.empty_scenario.Goals as goal

pub returns : goal.returns
returns c = empty_scenario
