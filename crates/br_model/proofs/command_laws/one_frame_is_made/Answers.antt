use Rattle.br_model.proofs.Worked.Commands.{one_made}
use Rattle.br_model.proofs.command_laws.one_frame_is_made.Goals as goal

pub returns : goal.returns
returns c = one_made
