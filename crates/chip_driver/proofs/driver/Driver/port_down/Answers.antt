use Rattle.std.proofs.Common.{false, sym, subst, ap, ◌∙◌, nat_cmp}
use Rattle.br_model.specs.Data.Maps.{without, parted}
use Rattle.chip_driver.specs.Drives.{Drives, driven}
use Rattle.chip_driver.proofs.Standing.{drives_port}
use Rattle.chip_driver.proofs.TableLaws.{written_down, unwritten_down}
use Rattle.chip_driver.proofs.driver.Driver.port_down.Goals as goal

pub returns-clause-drives : goal.returns-clause-drives
returns-clause-drives c d t before =
    let old : Drives d (driven c.self.inside.dom c.self.inside.count c.self.inside.kept) t = subst (λ r. Drives d r t) (sym c.self.view_is) before in
    drives_port d t (parted nat_cmp t.up c.args.p) (without nat_cmp t.flags c.args.p) (without nat_cmp t.state c.args.p) c.args.p _
    (driven c.self.inside.dom c.self.inside.count c.self.inside.kept) c.write_port.new.self old
    c.write_port.ensures.kept c.write_port.ensures.routers (c.write_port.ensures.members) c.write_port.ensures.row c.write_port.ensures.rest
    (ap (λ n. record c.port-row.result { up = false; flags = n; state = 0 }) c.no_flags-row.ensures
    ∙ written_down d c.self.inside.dom t c.args.p c.port-row.result (c.port-row.ensures ∙ old.rows.ports c.args.p c.write_port.ensures.below))
    (λ q other. unwritten_down d c.self.inside.dom t c.args.p q other)
