use Rattle.br_model.proofs.Worked.Commands.{first_word}
use Rattle.br_model.proofs.command_laws.kind_is_first_word.Goals as goal

pub returns : goal.returns
returns c = first_word
