use Rattle.br_model.proofs.Worked.Captures.{bad}
use Rattle.br_model.proofs.laws.bad_captures.Goals as goal

pub returns : goal.returns
returns c = bad
