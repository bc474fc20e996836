use Rattle.std.proofs.Common.{ℕ, List, subst, sym, None, ap, ap₂, ◌∙◌, arith}
use Rattle.br_model.specs.Table.Table.{without_pvid}
use Rattle.lists.specs.Padded.{padded}
use Rattle.vlan_groups.specs.Rows.{no_ports, memberships_from}
use Rattle.vlan_groups.specs.Vlans.{Vlans}
use Rattle.vlan_groups.proofs.Memberships.{removed, row-read}
use Rattle.vlan_groups.specs.declared.row.Row.{Row}
use Rattle.vlan_groups.specs.Tied.{AreTied}
use Rattle.vlan_groups.proofs.Tying.{tied-set}
use Rattle.vlan_groups.proofs.table.VlanTable.remove.Goals as goal

pub returns : goal.returns
returns c =
    let row = row-read c.place_of-place.result c.row_at.result c.as_slice.ensures.value c.row_at.ensures in
    ap₂ (λ vs ps. record { vlans = vs; pvid = ps })
    (ap (memberships_from 1) c.put_row.ensures.rows
    ∙ removed (padded no_ports 4094 c.self.inside.rows.items) c.place_of-place.result c.args.vid c.args.port c.row_at.result c.without-row.result c.args.self.now.vlans
    (omega (arith, c.self.invariant.0.sized)) c.place_of-place.ensures.place row c.without-row.ensures (ap (λ (s : Vlans). s.vlans) c.self.view_is))
    (c.unset_pvid.ensures ∙ ap (λ (ps : List (ℕ × ℕ)). without_pvid ps c.args.port c.args.vid) (ap (λ (s : Vlans). s.pvid) c.self.view_is))

pub invariant_of-self : goal.invariant_of-self
invariant_of-self c =
    let row = row-read c.place_of-place.result c.row_at.result c.as_slice.ensures.value c.row_at.ensures in (
      subst (λ (rows : List Row). AreTied rows c.switch.new.self) (sym c.put_row.ensures.rows)
          (tied-set
          (padded no_ports 4094 c.self.inside.rows.items) c.self.inside.joined c.switch.new.self c.place_of-place.result c.args.vid c.args.port None c.row_at.result c.without-row.result
          c.self.invariant.0 c.place_of-place.ensures.within c.place_of-place.ensures.place row c.without-row.ensures c.switch.ensures.vlan),
      c.put_row.ensures.room,
    )
