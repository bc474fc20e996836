use Rattle.br_model.proofs.Worked.Rows.{address_moves}
use Rattle.br_model.proofs.laws.address_moves.Goals as goal

pub returns : goal.returns
returns c = address_moves
