use Rattle.br_model.proofs.Worked.Rows.{published_point}
use Rattle.br_model.proofs.laws.published_point.Goals as goal

pub returns : goal.returns
returns c = published_point
