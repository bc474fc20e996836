use Rattle.br_model.proofs.Plane.Applied.{run-world}
use Rattle.br_model.proofs.Plane.Kept.{first-world, step-world}
use Rattle.br_model.proofs.plane_laws.kept.Goals as goal

pub returns : goal.returns
returns c = record { first = first-world; step = step-world; run = run-world }
