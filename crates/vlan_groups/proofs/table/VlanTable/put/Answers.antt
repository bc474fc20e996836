use Rattle.std.proofs.Common.{ℕ, List, subst, Some, cond, sym, ap, ap₂, ◌∙◌, arith}
use Rattle.std.specs.Ordering.{nat_cmp}
use Rattle.br_model.specs.Data.Maps.{put}
use Rattle.lists.specs.Padded.{padded}
use Rattle.vlan_groups.specs.Rows.{no_ports, memberships_from}
use Rattle.vlan_groups.specs.Vlans.{Vlans}
use Rattle.vlan_groups.proofs.Memberships.{added, row-read}
use Rattle.vlan_groups.specs.declared.row.Row.{Row}
use Rattle.vlan_groups.specs.Tied.{AreTied}
use Rattle.vlan_groups.proofs.Tying.{tied-set}
use Rattle.vlan_groups.proofs.table.VlanTable.put.Goals as goal

pub returns-then-pvid : goal.returns-then-pvid
returns-then-pvid c =
    let row = row-read c.place_of-place.result c.row_at.result c.as_slice.ensures.value c.row_at.ensures in
    let m : List (ℕ × ℕ) = c.args.self.now.pvid in
    ap₂ (λ vs ps. record { vlans = vs; pvid = ps })
    (ap (memberships_from 1) c.put_row.ensures.rows
    ∙ added (padded no_ports 4094 c.self.inside.rows.items) c.place_of-place.result c.args.vid c.args.port c.args.untagged c.row_at.result c.with-row.result c.args.self.now.vlans
    (omega (arith, c.self.invariant.0.sized)) c.place_of-place.ensures.place row c.with-row.ensures (ap (λ (s : Vlans). s.vlans) c.self.view_is))
    (c.set_pvid.ensures ∙ ap (λ (ps : List (ℕ × ℕ)). put nat_cmp ps c.args.port c.args.vid) (ap (λ (s : Vlans). s.pvid) c.self.view_is)
    ∙ sym (ap (λ b. cond b (put nat_cmp m c.args.port c.args.vid) m) c.if-pvid.true))

pub returns-else-pvid : goal.returns-else-pvid
returns-else-pvid c =
    let row = row-read c.place_of-place.result c.row_at.result c.as_slice.ensures.value c.row_at.ensures in
    let m : List (ℕ × ℕ) = c.args.self.now.pvid in
    ap₂ (λ vs ps. record { vlans = vs; pvid = ps })
    (ap (memberships_from 1) c.put_row.ensures.rows
    ∙ added (padded no_ports 4094 c.self.inside.rows.items) c.place_of-place.result c.args.vid c.args.port c.args.untagged c.row_at.result c.with-row.result c.args.self.now.vlans
    (omega (arith, c.self.invariant.0.sized)) c.place_of-place.ensures.place row c.with-row.ensures (ap (λ (s : Vlans). s.vlans) c.self.view_is))
    (ap (λ (s : Vlans). s.pvid) c.self.view_is ∙ sym (ap (λ b. cond b (put nat_cmp m c.args.port c.args.vid) m) c.if-pvid.false))

pub invariant_of-self : goal.invariant_of-self
invariant_of-self c =
    let row = row-read c.place_of-place.result c.row_at.result c.as_slice.ensures.value c.row_at.ensures in (
      subst (λ (rows : List Row). AreTied rows c.switch.new.self) (sym c.put_row.ensures.rows)
          (tied-set (padded no_ports 4094 c.self.inside.rows.items) c.self.inside.joined c.switch.new.self c.place_of-place.result c.args.vid c.args.port
          (Some c.args.untagged) c.row_at.result c.with-row.result c.self.invariant.0 c.place_of-place.ensures.within c.place_of-place.ensures.place row c.with-row.ensures
          c.switch.ensures.vlan),
      c.put_row.ensures.room,
    )

pub invariant_of-self-else-pvid : goal.invariant_of-self-else-pvid
invariant_of-self-else-pvid c =
    let row = row-read c.place_of-place.result c.row_at.result c.as_slice.ensures.value c.row_at.ensures in (
      subst (λ (rows : List Row). AreTied rows c.switch.new.self) (sym c.put_row.ensures.rows)
          (tied-set (padded no_ports 4094 c.self.inside.rows.items) c.self.inside.joined c.switch.new.self c.place_of-place.result c.args.vid c.args.port
          (Some c.args.untagged) c.row_at.result c.with-row.result c.self.invariant.0 c.place_of-place.ensures.within c.place_of-place.ensures.place row c.with-row.ensures
          c.switch.ensures.vlan),
      c.put_row.ensures.room,
    )
