use Rattle.br_model.proofs.Worked.Commands.{steps_behind}
use Rattle.br_model.proofs.command_laws.frames_have_steps_behind.Goals as goal

pub returns : goal.returns
returns c = steps_behind
