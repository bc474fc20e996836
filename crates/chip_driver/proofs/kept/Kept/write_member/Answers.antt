use Rattle.std.proofs.Common.{◌≡◌, ◌&&◌, cond, refl, ap, ap₂, ◌∙◌}
use Rattle.std.specs.Prelude.{◌==◌, Some}
use Rattle.port_sets.specs.Numbers.{has_number}
use Rattle.chip_tables.specs.declared.rows.VlanRow.{VlanRow}
use Rattle.chip_tables.specs.Rows.{Rows, vlan_at}
use Rattle.chip_driver.specs.GroupRows.{is_among, is_member}
use Rattle.chip_driver.specs.Shadows.{switched}
use Rattle.chip_driver.specs.Shares.{shares_of}
use Rattle.chip_driver.proofs.GroupLoop.{used_of, groups_anew}
use Rattle.chip_driver.proofs.Keeping.{settled_member, settled_groups, refreshed_member, vlan_kept, tells_at}
use Rattle.chip_driver.proofs.kept.Kept.write_member.Goals as goal

pub refresh-requires : goal.refresh-requires
refresh-requires c =
    used_of c.args.self.now.shadow c.args.self.now.groups c.args.self.now.tables _ c.requires.follow (ap (λ (r : Rows). r.groups) c.refresh_vlan.ensures.rest
    ∙ ap (λ (r : Rows). r.groups) c.set_vlan.ensures.rest)

pub returns-clause-kept : goal.returns-clause-kept
returns-clause-kept c =
    let kept = c.args.self.now in
    let p = c.args.port in
    let v = c.args.vid in
    let members = c.switched-members.ensures ∙ ap₂ (λ (r : VlanRow) n. switched r.members n c.args.on) c.vlan-row.ensures c.number-n.ensures.value in
    let was = c.has.ensures.value ∙ ap₂ (λ (r : VlanRow) n. has_number r.members n) c.vlan-row.ensures c.number-n.ensures.value in
    let tells = tells_at _ _ _ _ _ (ap (λ m. shares_of kept.shadow p m) was) refl c.by_member-touched.ensures in
    let refreshes =
    refreshed_member kept.shadow kept.joined p v c.args.on _ c.by_member-touched.result kept.tables _ _ c.number-n.ensures.below c.requires.elsewhere c.requires.settled members
    c.set_vlan.ensures.row c.set_vlan.ensures.rest c.refresh_vlan.ensures in
    record {
      elsewhere = c.requires.elsewhere;
      settled = settled_groups _ _ _ _
          (settled_member kept.shadow kept.joined _ p v c.args.on _ c.by_member-touched.result kept.tables _ _ c.number-n.ensures.below c.switch.ensures.below c.requires.settled members
          c.set_vlan.ensures.row c.set_vlan.ensures.rest c.switch.ensures.vlan tells refreshes)
          c.refresh.ensures.rest;
      follow =
          groups_anew
          (λ k. c.by_member-touched.result.groups && (is_among (Some v) k.0 && is_member kept.groups p k)) kept.shadow kept.shadow kept.groups kept.tables c.refresh_vlan.new.tables
          c.refresh.new.tables c.requires.follow
          (ap (λ (r : Rows). r.groups) c.refresh_vlan.ensures.rest ∙ ap (λ (r : Rows). r.groups) c.set_vlan.ensures.rest)
          (vlan_kept kept.shadow p v c.args.on _ c.by_member-touched.result kept.groups kept.tables c.refresh_vlan.new.tables c.number-n.ensures.below members tells
          (λ vid. ap (λ (r : Rows). vlan_at r vid) c.refresh_vlan.ensures.rest ∙ c.set_vlan.ensures.row vid))
          c.refresh.ensures;
    }

pub returns-clause-row : goal.returns-clause-row
returns-clause-row c vid =
    let old = c.args.self.now.tables in
    let members : c.switched-members.result ≡ switched (vlan_at old c.args.vid).members c.args.port c.args.on =
    c.switched-members.ensures ∙ ap₂ (λ (r : VlanRow) n. switched r.members n c.args.on) c.vlan-row.ensures c.number-n.ensures.value in
    let untagged : c.switched-untagged.result ≡ switched (vlan_at old c.args.vid).untagged c.args.port c.args.untagged =
    c.switched-untagged.ensures ∙ ap₂ (λ (r : VlanRow) n. switched r.untagged n c.args.untagged) c.vlan-row.ensures c.number-n.ensures.value in
    ap (λ (r : Rows). vlan_at r vid) c.refresh.ensures.rest ∙ ap (λ (r : Rows). vlan_at r vid) c.refresh_vlan.ensures.rest ∙ c.set_vlan.ensures.row vid
    ∙ ap₂ (λ m u. cond (vid == c.args.vid) (record { members = m; untagged = u }) (vlan_at old vid)) members untagged
