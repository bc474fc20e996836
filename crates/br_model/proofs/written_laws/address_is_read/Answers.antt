use Rattle.br_model.proofs.Text.WrittenAddresses.{mac_read}
use Rattle.br_model.proofs.written_laws.address_is_read.Goals as goal

pub returns : goal.returns
returns c = mac_read
