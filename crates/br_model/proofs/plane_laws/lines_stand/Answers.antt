use Rattle.br_model.proofs.Plane.Once.{run-lines}
use Rattle.br_model.proofs.plane_laws.lines_stand.Goals as goal

pub returns : goal.returns
returns c = run-lines
