use Rattle.br_model.proofs.Plane.Applied.{run-chips}
use Rattle.br_model.proofs.plane_laws.chips_stay.Goals as goal

pub returns : goal.returns
returns c = run-chips
