use Rattle.br_model.proofs.Text.DeclaredChips.{declared-chips}
use Rattle.br_model.proofs.written_laws.chips_are_declared.Goals as goal

pub returns : goal.returns
returns c = declared-chips
