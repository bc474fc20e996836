use Rattle.std.proofs.Common.{sym, ap, ◌∙◌}
use Rattle.chip_driver.specs.Shadows.{is_wanted}
use Rattle.chip_driver.proofs.fans.wanted.Goals as goal

pub returns-in-Floods : goal.returns-in-Floods
returns-in-Floods c q low = c.flooded.ensures q low ∙ ap (λ fan. is_wanted c.args.shadow.now fan q) (sym c.in-Floods.is)

pub returns-in-Routers : goal.returns-in-Routers
returns-in-Routers c q low = ap (λ fan. is_wanted c.args.shadow.now fan q) (sym c.in-Routers.is)
