use Rattle.br_model.proofs.Worked.Groups.{groups_by_command, bad_group}
use Rattle.br_model.proofs.laws.groups_by_command.Goals as goal

pub returns : goal.returns
returns c = record { told = groups_by_command; bad = bad_group }
