use Rattle.br_model.proofs.Worked.Domains.{one_turn_less}
use Rattle.br_model.proofs.laws.one_turn_less.Goals as goal

pub returns : goal.returns
returns c = one_turn_less
