use Rattle.std.proofs.Common.{sym, refl, subst, ap, ◌∙◌}
use Rattle.br_model.specs.Table.Table.{ip_version}
use Rattle.br_model.specs.Table.Table as table
use Rattle.chip_tables.specs.Rows.{Rows, trap_at}
use Rattle.chip_driver.specs.Drives.{Drives, driven}
use Rattle.chip_driver.proofs.Standing.{drives_switches}
use Rattle.chip_driver.proofs.TableLaws.{querier_after}
use Rattle.chip_driver.proofs.driver.Driver.set_querier.Goals as goal

pub returns-clause-drives : goal.returns-clause-drives
returns-clause-drives c d t before =
    let old : Drives d (driven c.self.inside.dom c.self.inside.count c.self.inside.kept) t = subst (λ r. Drives d r t) (sym c.self.view_is) before in
    drives_switches d t (table.switched c.args.on t.queriers (ip_version c.args.six)) t.snoop t.stp _ (driven c.self.inside.dom c.self.inside.count c.self.inside.kept) _ _ _ old c.set_control.ensures.rest refl
    (λ i low. ap (λ (r : Rows). trap_at r i) c.set_control.ensures.rest ∙ old.rows.traps i low)
    (c.set_control.ensures.row ∙ c.with_querier-control.ensures ∙ querier_after t c.args.six c.args.on c.control.result (c.control.ensures ∙ old.rows.control))
