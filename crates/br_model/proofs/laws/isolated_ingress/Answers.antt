use Rattle.br_model.proofs.Worked.Chips.{isolated_ingress}
use Rattle.br_model.proofs.laws.isolated_ingress.Goals as goal

pub returns : goal.returns
returns c = isolated_ingress
