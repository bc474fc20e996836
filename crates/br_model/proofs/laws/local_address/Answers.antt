use Rattle.br_model.proofs.Worked.Rows.{local_address}
use Rattle.br_model.proofs.laws.local_address.Goals as goal

pub returns : goal.returns
returns c = local_address
