use Rattle.br_model.proofs.Worked.Commands.{fdb_ascends, vlan_ascends, mdb_ascends}
use Rattle.br_model.proofs.command_laws.listings_ascend.Goals as goal

pub returns : goal.returns
returns c = record { fdb = fdb_ascends; vlan = vlan_ascends; mdb = mdb_ascends }
