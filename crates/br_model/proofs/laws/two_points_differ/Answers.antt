use Rattle.br_model.proofs.Worked.Chips.{two_points_differ}
use Rattle.br_model.proofs.laws.two_points_differ.Goals as goal

pub returns : goal.returns
returns c = two_points_differ
