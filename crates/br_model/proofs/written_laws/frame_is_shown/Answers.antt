use Rattle.br_model.proofs.Text.WrittenLines.{frame_shown}
use Rattle.br_model.proofs.written_laws.frame_is_shown.Goals as goal

pub returns : goal.returns
returns c = frame_shown
