use Rattle.br_model.proofs.Worked.Chips.{hold}
use Rattle.br_model.proofs.laws.hold.Goals as goal

pub returns : goal.returns
returns c = hold
