use Rattle.std.proofs.Common.{◌≡◌, true, cond, Some, sym, ap, subst, ◌∙◌, nat_cmp}
use Rattle.br_model.specs.Data.Maps.{pair_cmp, put}
use Rattle.br_model.specs.Table.Table.{apply}
use Rattle.br_model.specs.declared.change.Change.TheVariants.{VlanAdd}
use Rattle.chip_tables.specs.declared.rows.PortRow.{PortRow}
use Rattle.chip_tables.specs.Rows.{port_at}
use Rattle.chip_tables.specs.Stands.{port_wanted}
use Rattle.chip_driver.specs.declared.shadow.Shadow.{Shadow}
use Rattle.chip_driver.specs.Drives.{Drives, driven}
use Rattle.chip_driver.proofs.Standing.{Membership, drives_vlan}
use Rattle.chip_driver.proofs.TableLaws.{member_added, untagged_added, pvid_added, pvid_added_other}
use Rattle.chip_driver.proofs.driver.Driver.add_vlan.Goals as goal

pub returns-clause-drives : goal.returns-clause-drives
returns-clause-drives c d t before =
    let p = c.args.p in
    let v = c.args.v in
    let old : Drives d (driven c.self.inside.dom c.self.inside.count c.self.inside.kept) t = subst (λ r. Drives d r t) (sym c.self.view_is) before in
    let change : Membership t (apply t (VlanAdd p v c.args.untagged c.args.pvid)) p v true c.args.untagged = record {
      member = λ vid q. member_added t p v vid q c.args.untagged c.args.pvid;
      untagged = λ vid q. untagged_added t p v vid q c.args.untagged c.args.pvid;
      other = λ q other. pvid_added_other t.pvid p v c.args.pvid q other;
    } in
    let port : port_at c.write_member.new.self.tables p ≡ port_wanted d c.self.inside.dom t p = ap (λ r. port_at r p) c.write_member.ensures.rest ∙ old.rows.ports p c.write_pvid.ensures.below in
    drives_vlan d t (put pair_cmp t.vlans (v, p) c.args.untagged) (cond c.args.pvid (put nat_cmp t.pvid p v) t.pvid) p v true c.args.untagged _
    (driven c.self.inside.dom c.self.inside.count c.self.inside.kept) _ c.write_pvid.new.self old change c.write_pvid.ensures.kept
    (ap (λ (s : Shadow). s.routers) (c.write_pvid.ensures.shadow ∙ c.write_member.ensures.shadow)) (c.write_pvid.ensures.members ∙ c.write_member.ensures.members)
    c.write_member.ensures.row c.write_member.ensures.rest c.write_pvid.ensures.row c.write_pvid.ensures.rest
    (ap (λ (r : PortRow). record r { pvid = c.pvid_with-pvid.result }) port
    ∙ ap (λ o. record (port_wanted d c.self.inside.dom t p) { pvid = o })
    (c.pvid_with-pvid.ensures ∙ ap (λ (r : PortRow). cond c.args.pvid (Some v) r.pvid) (c.port.ensures ∙ port) ∙ sym (pvid_added t.pvid p v c.args.pvid)))
