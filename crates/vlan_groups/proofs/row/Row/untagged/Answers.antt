use Rattle.vlan_groups.proofs.RowLaws.{untagged-row}
use Rattle.vlan_groups.proofs.row.Row.untagged.Goals as goal

pub returns : goal.returns
returns c = untagged-row c.args.self.now _ c.and.ensures
