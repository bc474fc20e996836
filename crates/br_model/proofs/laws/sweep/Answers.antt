use Rattle.br_model.proofs.Worked.Chips.{sweep}
use Rattle.br_model.proofs.laws.sweep.Goals as goal

pub returns : goal.returns
returns c = sweep
