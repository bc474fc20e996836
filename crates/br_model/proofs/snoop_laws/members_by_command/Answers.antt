use Rattle.br_model.proofs.Worked.Snooping as rows
use Rattle.br_model.proofs.snoop_laws.members_by_command.Goals as goal

pub returns : goal.returns
returns c = rows.members_by_command
