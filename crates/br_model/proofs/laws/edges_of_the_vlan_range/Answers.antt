use Rattle.br_model.proofs.Worked.Rows.{edges_of_the_vlan_range}
use Rattle.br_model.proofs.laws.edges_of_the_vlan_range.Goals as goal

pub returns : goal.returns
returns c = edges_of_the_vlan_range
