use Rattle.br_model.proofs.Worked.Snooping as rows
use Rattle.br_model.proofs.snoop_laws.snooping.Goals as goal

pub returns : goal.returns
returns c = rows.snooping
