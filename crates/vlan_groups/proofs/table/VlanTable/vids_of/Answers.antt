use Rattle.std.proofs.Common.{ap, ◌∙◌, arith}
use Rattle.lists.specs.Padded.{padded}
use Rattle.vlan_groups.specs.Rows.{no_ports}
use Rattle.vlan_groups.specs.Vlans.{Vlans, vids_of}
use Rattle.vlan_groups.proofs.Tying.{vids-tied}
use Rattle.vlan_groups.proofs.table.VlanTable.vids_of.Goals as goal

pub returns : goal.returns
returns c =
    c.of.ensures
    ∙ c.in_ok-vids_of.ensures
    ∙ vids-tied (padded no_ports 4094 c.self.inside.rows.items) c.self.inside.joined c.args.port c.self.invariant.0 (omega arith)
    ∙ ap (λ (s : Vlans). vids_of s.vlans c.args.port) c.self.view_is
