use Rattle.std.proofs.Common.{sym, ap, ◌∙◌}
use Rattle.chip_driver.specs.Shadows.{is_flood_wanted}
use Rattle.chip_driver.proofs.Sets.{has-where}
use Rattle.chip_driver.proofs.fans.flooded.Goals as goal

pub returns-in-Unicast : goal.returns-in-Unicast
returns-in-Unicast c q low = ap (λ f. is_flood_wanted c.args.shadow.now f q) (sym c.in-Unicast.is)

pub returns-in-Mcast : goal.returns-in-Mcast
returns-in-Mcast c q low = has-where _ _ c.with.ensures q low ∙ ap (λ f. is_flood_wanted c.args.shadow.now f q) (sym c.in-Mcast.is)

pub returns-in-Bcast : goal.returns-in-Bcast
returns-in-Bcast c q low = has-where _ _ c.with-in-Bcast.ensures q low ∙ ap (λ f. is_flood_wanted c.args.shadow.now f q) (sym c.in-Bcast.is)
