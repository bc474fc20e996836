use Rattle.br_model.proofs.Worked.Snooping as rows
use Rattle.br_model.proofs.snoop_laws.ends_of_members.Goals as goal

pub returns : goal.returns
returns c = rows.ends_of_members
