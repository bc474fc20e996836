use Rattle.br_model.proofs.Worked.Laws.{states_in_table, states_in_tree}
use Rattle.br_model.proofs.state_laws.states_of_a_run.Goals as goal

pub returns : goal.returns
returns c = record { table = states_in_table; tree = states_in_tree }
