use Rattle.br_model.proofs.Program.SameSteps.{step_decides}
use Rattle.br_model.proofs.live_laws.steps_are_told_apart.Goals as goal

pub returns : goal.returns
returns c = record { only = λ a b. (step_decides a b).0; always = λ a b. (step_decides a b).1 }
