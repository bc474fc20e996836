use Rattle.br_model.proofs.Text.WrittenNumbers.{decimal_read}
use Rattle.br_model.proofs.written_laws.decimal_is_read.Goals as goal

pub returns : goal.returns
returns c = decimal_read
