use Rattle.std.proofs.Common.{◌≡◌, ◌==◌, false, cond, None, Some, nat_cmp, sym, ap, subst, ◌∙◌}
use Rattle.std.specs.Option.{option_eq}
use Rattle.br_model.specs.Data.Maps.{pair_cmp, get, without}
use Rattle.br_model.specs.Table.Table.{apply, without_pvid}
use Rattle.br_model.specs.declared.change.Change.TheVariants.{VlanDel}
use Rattle.chip_tables.specs.declared.rows.PortRow.{PortRow}
use Rattle.chip_tables.specs.Rows.{port_at}
use Rattle.chip_tables.specs.Stands.{port_wanted}
use Rattle.chip_driver.specs.declared.shadow.Shadow.{Shadow}
use Rattle.chip_driver.specs.Drives.{Drives, driven}
use Rattle.chip_driver.proofs.Standing.{Membership, drives_vlan}
use Rattle.chip_driver.proofs.TableLaws.{member_left, untagged_left, pvid_left, pvid_left_other}
use Rattle.chip_driver.proofs.driver.Driver.del_vlan.Goals as goal

pub returns-clause-drives : goal.returns-clause-drives
returns-clause-drives c d t before =
    let p = c.args.p in
    let v = c.args.v in
    let old : Drives d (driven c.self.inside.dom c.self.inside.count c.self.inside.kept) t = subst (λ r. Drives d r t) (sym c.self.view_is) before in
    let change : Membership t (apply t (VlanDel p v)) p v false false = record {
      member = λ vid q. member_left t p v vid q;
      untagged = λ vid q. untagged_left t p v vid q;
      other = λ q other. pvid_left_other t.pvid p v (option_eq (λ x y. x == y) (get nat_cmp t.pvid p) (Some v)) q other;
    } in
    let port : port_at c.write_member.new.self.tables p ≡ port_wanted d c.self.inside.dom t p = ap (λ r. port_at r p) c.write_member.ensures.rest ∙ old.rows.ports p c.write_pvid.ensures.below in
    drives_vlan d t (without pair_cmp t.vlans (v, p)) (without_pvid t.pvid p v) p v false false _
    (driven c.self.inside.dom c.self.inside.count c.self.inside.kept) _ c.write_pvid.new.self old change c.write_pvid.ensures.kept
    (ap (λ (s : Shadow). s.routers) (c.write_pvid.ensures.shadow ∙ c.write_member.ensures.shadow)) (c.write_pvid.ensures.members ∙ c.write_member.ensures.members)
    c.write_member.ensures.row c.write_member.ensures.rest c.write_pvid.ensures.row c.write_pvid.ensures.rest
    (ap (λ (r : PortRow). record r { pvid = c.pvid_without-pvid.result }) port
    ∙ ap (λ o. record (port_wanted d c.self.inside.dom t p) { pvid = o })
    (c.pvid_without-pvid.ensures ∙ ap (λ (r : PortRow). cond (option_eq (λ x y. x == y) r.pvid (Some v)) None r.pvid) (c.port.ensures ∙ port)
    ∙ sym (pvid_left t.pvid p v (option_eq (λ x y. x == y) (get nat_cmp t.pvid p) (Some v)))))
