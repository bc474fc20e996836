use Rattle.br_model.proofs.Worked.Commands.{three_made}
use Rattle.br_model.proofs.command_laws.three_frames_are_made.Goals as goal

pub returns : goal.returns
returns c = three_made
