use Rattle.vlan_groups.proofs.RowLaws.{members-row}
use Rattle.vlan_groups.proofs.row.Row.members.Goals as goal

pub returns : goal.returns
returns c = members-row c.args.self.now c.members_ascend.ensures.ordered
