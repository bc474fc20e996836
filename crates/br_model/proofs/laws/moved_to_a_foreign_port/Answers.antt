use Rattle.br_model.proofs.Worked.Chips.{moved_to_a_foreign_port}
use Rattle.br_model.proofs.laws.moved_to_a_foreign_port.Goals as goal

pub returns : goal.returns
returns c = moved_to_a_foreign_port
