use Rattle.br_model.proofs.Worked.Commands.{fdb, vlan, mdb, bad}
use Rattle.br_model.proofs.command_laws.tables_are_listed.Goals as goal

pub returns : goal.returns
returns c = record { fdb = fdb; vlan = vlan; mdb = mdb; unended = bad }
