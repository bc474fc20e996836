use Rattle.br_model.proofs.Program.MadeRead.{made_read}
use Rattle.br_model.proofs.command_laws.generated_is_read.Goals as goal

pub returns : goal.returns
returns c = made_read
