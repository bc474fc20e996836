use Rattle.br_model.proofs.Worked.Rows.{first_frame}
use Rattle.br_model.proofs.laws.first_frame.Goals as goal

pub returns : goal.returns
returns c = first_frame
