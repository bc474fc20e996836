use Rattle.br_model.proofs.Plane.Agreement.{agreement}
use Rattle.br_model.proofs.plane_laws.agreement.Goals as goal

pub returns : goal.returns
returns c = agreement
