use Rattle.std.proofs.Common.{arith, ap, subst, sym}
use Rattle.br_model.specs.Table.Table.{apply}
use Rattle.chip_driver.specs.Drives.{Driven, Drives}
use Rattle.chip_driver.proofs.driver.Driver.address.Goals as goal

pub overflow_add-self : goal.overflow_add-self
overflow_add-self c = omega (arith, c.requires.count, c.apply.ensures.count, ap (λ (x : Driven). x.count) c.self.view_is)

pub returns-clause-drives : goal.returns-clause-drives
returns-clause-drives c d t before =
    let after = subst (λ x. Drives d x (apply t c.args.u.now.change)) (sym c.self.view_is) (c.apply.ensures.drives d t before) in
    record { rows = after.rows; routers = after.routers; groups = after.groups }
