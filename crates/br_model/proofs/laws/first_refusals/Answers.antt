use Rattle.br_model.proofs.Worked.Rows.{first_refusals}
use Rattle.br_model.proofs.laws.first_refusals.Goals as goal

pub returns : goal.returns
returns c = first_refusals
