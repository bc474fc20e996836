use Rattle.br_model.proofs.Worked.Chips.{no_chip}
use Rattle.br_model.proofs.laws.no_chip.Goals as goal

pub returns : goal.returns
returns c = no_chip
