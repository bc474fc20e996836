use Rattle.br_model.proofs.Worked.Captures.{capture}
use Rattle.br_model.proofs.laws.capture.Goals as goal

pub returns : goal.returns
returns c = capture
