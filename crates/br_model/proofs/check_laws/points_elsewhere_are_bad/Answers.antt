use Rattle.br_model.proofs.Worked.Checks.{elsewhere}
use Rattle.br_model.proofs.check_laws.points_elsewhere_are_bad.Goals as goal

pub returns : goal.returns
returns c = elsewhere
