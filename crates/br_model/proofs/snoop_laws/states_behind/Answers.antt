use Rattle.br_model.proofs.Worked.Snooping as rows
use Rattle.br_model.proofs.snoop_laws.states_behind.Goals as goal

pub returns : goal.returns
returns c = rows.states_behind
