use Rattle.br_model.proofs.Worked.Snooping as rows
use Rattle.br_model.proofs.snoop_laws.all_ends.Goals as goal

pub returns : goal.returns
returns c = record { told = rows.all_ends; learned = rows.all_learned }
