use Rattle.std.proofs.Common.{sym, refl, subst, ap, ◌∙◌}
use Rattle.chip_tables.specs.Rows.{Rows, trap_at, control_in}
use Rattle.chip_tables.specs.declared.rows.Control.{Control}
use Rattle.chip_driver.specs.Drives.{Drives, driven}
use Rattle.chip_driver.proofs.Standing.{drives_switches}
use Rattle.chip_driver.proofs.TableLaws.{stp_traps}
use Rattle.chip_driver.proofs.driver.Driver.set_stp.Goals as goal

pub returns-clause-drives : goal.returns-clause-drives
returns-clause-drives c d t before =
    let old : Drives d (driven c.self.inside.dom c.self.inside.count c.self.inside.kept) t = subst (λ r. Drives d r t) (sym c.self.view_is) before in
    drives_switches d t t.queriers t.snoop c.args.on _ (driven c.self.inside.dom c.self.inside.count c.self.inside.kept) _ _ _ old
    (c.set_trap.ensures.rest ∙ ap (λ (r : Rows). record r { traps = c.set_trap.new.self.traps }) c.set_control.ensures.rest) refl
    (λ i low. stp_traps t c.args.on i _ _ (ap (λ (r : Rows). trap_at r i) c.set_control.ensures.rest ∙ old.rows.traps i low) (c.set_trap.ensures.row i))
    (ap control_in c.set_trap.ensures.rest ∙ c.set_control.ensures.row ∙ ap (λ (r : Control). record r { tree = c.args.on }) (c.control-control.ensures ∙ old.rows.control))
