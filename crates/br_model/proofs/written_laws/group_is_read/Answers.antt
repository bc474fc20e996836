use Rattle.br_model.proofs.Text.WrittenGroups.{ip_read}
use Rattle.br_model.proofs.written_laws.group_is_read.Goals as goal

pub returns : goal.returns
returns c = ip_read
