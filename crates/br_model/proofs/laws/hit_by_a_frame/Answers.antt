use Rattle.br_model.proofs.Worked.Chips.{hit_by_a_frame}
use Rattle.br_model.proofs.laws.hit_by_a_frame.Goals as goal

pub returns : goal.returns
returns c = hit_by_a_frame
