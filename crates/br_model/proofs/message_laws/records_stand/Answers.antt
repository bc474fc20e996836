use Rattle.br_model.proofs.Wire.RecordsFit.{message-stands}
use Rattle.br_model.proofs.message_laws.records_stand.Goals as goal

pub returns : goal.returns
returns c = message-stands
