use Rattle.br_model.proofs.Worked.Domains.{two_chips}
use Rattle.br_model.proofs.laws.two_chips.Goals as goal

pub returns : goal.returns
returns c = two_chips
