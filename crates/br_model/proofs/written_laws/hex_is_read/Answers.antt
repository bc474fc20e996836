use Rattle.br_model.proofs.Text.WrittenNumbers.{hex_read}
use Rattle.br_model.proofs.written_laws.hex_is_read.Goals as goal

pub returns : goal.returns
returns c = hex_read
