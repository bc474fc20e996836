use Rattle.br_model.proofs.Plane.Once.{run-lines}
use Rattle.br_model.proofs.plane_laws.once_only.Goals as goal

pub returns : goal.returns
returns c = λ setup steps. (run-lines setup steps).once
