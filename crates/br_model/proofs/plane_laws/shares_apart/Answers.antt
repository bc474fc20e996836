use Rattle.br_model.proofs.Plane.Shares.{apart}
use Rattle.br_model.proofs.plane_laws.shares_apart.Goals as goal

pub returns : goal.returns
returns c = apart
