use Rattle.br_model.proofs.Worked.Snooping as rows
use Rattle.br_model.proofs.snoop_laws.truncated_record.Goals as goal

pub returns : goal.returns
returns c = rows.truncated_record
