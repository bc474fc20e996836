use Rattle.br_model.proofs.Plane.Shares.{together}
use Rattle.br_model.proofs.plane_laws.shares_together.Goals as goal

pub returns : goal.returns
returns c = together
