use Rattle.std.proofs.Common.{◌≡◌, List, Some, [], true, refl, sym, ap, ap₂, subst, ◌∙◌, arith}
use Rattle.lists.specs.Padded.{padded}
use Rattle.lists.proofs.Filling.{length-padded, padded-none}
use Rattle.vlan_groups.specs.declared.row.Row.{Row}
use Rattle.vlan_groups.specs.Rows.{memberships_from, no_ports}
use Rattle.vlan_groups.specs.Tied.{AreTied}
use Rattle.vlan_groups.proofs.Memberships.{added, memberships-none, row-read}
use Rattle.vlan_groups.proofs.Tying.{tied-set, tied-none}
use Rattle.vlan_groups.proofs.table.VlanTable.make.Goals as goal

-- no row was written
blank : (rows : List Row) → rows ≡ [] → memberships_from 1 (padded no_ports 4094 rows) ≡ []
blank rows none = ap (memberships_from 1) (ap (padded no_ports 4094) none ∙ padded-none no_ports 4094) ∙ memberships-none 1 4094 no_ports refl

pub returns : goal.returns
returns c =
    let row = row-read c.place_of-place.result c.row_at.result c.as_slice.ensures.value c.row_at.ensures in
    let rows = c.in_ok-rows.rows.items in
    ap₂ (λ vs ps. record { vlans = vs; pvid = ps })
    (ap (memberships_from 1) c.put_row.ensures.rows
    ∙ added (padded no_ports 4094 rows) c.place_of-place.result 1 0 true c.row_at.result c.with-row.result []
    (omega (arith, length-padded no_ports 4094 rows, c.place_of-place.ensures.within)) c.place_of-place.ensures.place row c.with-row.ensures
    (blank rows c.in_ok-rows.ensures.items))
    c.no_pvids.ensures

pub invariant_of-result : goal.invariant_of-result
invariant_of-result c =
    let row = row-read c.place_of-place.result c.row_at.result c.as_slice.ensures.value c.row_at.ensures in
    let rows = c.in_ok-rows.rows.items in (
      subst (λ (rs : List Row). AreTied rs c.switch.new.self) (sym c.put_row.ensures.rows)
          (tied-set (padded no_ports 4094 rows) c.in_ok-joined.joined c.switch.new.self c.place_of-place.result 1 0 (Some true) c.row_at.result c.with-row.result
          (tied-none (padded no_ports 4094 rows) c.in_ok-joined.joined (length-padded no_ports 4094 rows) (blank rows c.in_ok-rows.ensures.items) c.in_ok-joined.ensures)
          c.place_of-place.ensures.within c.place_of-place.ensures.place row c.with-row.ensures c.switch.ensures.vlan),
      c.put_row.ensures.room,
    )
