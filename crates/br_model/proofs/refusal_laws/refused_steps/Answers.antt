use Rattle.br_model.proofs.Plane.Refused.{step-refused}
use Rattle.br_model.proofs.refusal_laws.refused_steps.Goals as goal

pub returns : goal.returns
returns c = record {
  number = λ w step n why there. (step-refused w step n why there).0;
  world = λ w step n why there. (step-refused w step n why there).1;
}
