use Rattle.br_model.proofs.Worked.Chips.{plain_ingress}
use Rattle.br_model.proofs.laws.plain_ingress.Goals as goal

pub returns : goal.returns
returns c = plain_ingress
