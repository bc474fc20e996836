use Rattle.br_model.proofs.Worked.Commands.{kinds_counted}
use Rattle.br_model.proofs.command_laws.kinds_are_counted.Goals as goal

pub returns : goal.returns
returns c = kinds_counted
