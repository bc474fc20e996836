use Rattle.br_model.proofs.Worked.Chips.{port_down_and_up}
use Rattle.br_model.proofs.laws.port_down_and_up.Goals as goal

pub returns : goal.returns
returns c = port_down_and_up
