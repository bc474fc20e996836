use Rattle.br_model.proofs.Worked.Rows.{ageing}
use Rattle.br_model.proofs.laws.ageing.Goals as goal

pub returns : goal.returns
returns c = ageing
