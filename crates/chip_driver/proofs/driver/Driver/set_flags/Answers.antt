use Rattle.std.proofs.Common.{sym, subst, ◌∙◌, nat_cmp}
use Rattle.br_model.specs.Data.Maps.{put}
use Rattle.chip_driver.specs.Drives.{Drives, driven}
use Rattle.chip_driver.proofs.Standing.{drives_port}
use Rattle.chip_driver.proofs.TableLaws.{written_flags, unwritten_flags}
use Rattle.chip_driver.proofs.driver.Driver.set_flags.Goals as goal

pub returns-clause-drives : goal.returns-clause-drives
returns-clause-drives c d t before =
    let old : Drives d (driven c.self.inside.dom c.self.inside.count c.self.inside.kept) t = subst (λ r. Drives d r t) (sym c.self.view_is) before in
    drives_port d t t.up (put nat_cmp t.flags c.args.p c.args.flags) t.state c.args.p _ (driven c.self.inside.dom c.self.inside.count c.self.inside.kept) c.write_port.new.self old
    c.write_port.ensures.kept c.write_port.ensures.routers (c.write_port.ensures.members) c.write_port.ensures.row c.write_port.ensures.rest
    (written_flags d c.self.inside.dom t c.args.p c.port-row.result (c.port-row.ensures ∙ old.rows.ports c.args.p c.write_port.ensures.below) c.args.flags)
    (λ q other. unwritten_flags d c.self.inside.dom t c.args.p q other c.args.flags)
