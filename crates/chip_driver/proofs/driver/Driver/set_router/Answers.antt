use Rattle.std.proofs.Common.{sym, subst}
use Rattle.chip_driver.specs.Drives.{Drives, driven}
use Rattle.chip_driver.proofs.Standing.{drives_router}
use Rattle.chip_driver.proofs.driver.Driver.set_router.Goals as goal

pub returns-clause-drives : goal.returns-clause-drives
returns-clause-drives c d t before =
    let old : Drives d (driven c.self.inside.dom c.self.inside.count c.self.inside.kept) t = subst (λ r. Drives d r t) (sym c.self.view_is) before in
    drives_router d t c.args.p c.args.on (driven c.self.inside.dom c.self.inside.count c.self.inside.kept) c.write_router.new.self old c.write_router.ensures.kept c.write_router.ensures.routers
    (c.write_router.ensures.members) c.write_router.ensures.rest
