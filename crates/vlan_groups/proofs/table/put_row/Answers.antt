use Rattle.std.proofs.Common.{◌≡◌, set, subst}
use Rattle.lists.specs.Padded.{padded}
use Rattle.vlan_groups.specs.declared.row.Row.{Row}
use Rattle.vlan_groups.proofs.table.put_row.Goals as goal

pub returns-clause-rows : goal.returns-clause-rows
returns-clause-rows c =
    subst (λ (b : Row). padded b 4094 c.put_item.new.items.items ≡ set (padded b 4094 c.args.rows.now.items) c.args.place c.args.row) c.empty.ensures (c.put_item.ensures.items 4094)
