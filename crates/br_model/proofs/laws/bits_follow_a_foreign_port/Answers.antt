use Rattle.br_model.proofs.Worked.Chips.{bits_follow_a_foreign_port}
use Rattle.br_model.proofs.laws.bits_follow_a_foreign_port.Goals as goal

pub returns : goal.returns
returns c = bits_follow_a_foreign_port
