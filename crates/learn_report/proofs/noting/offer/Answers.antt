use Rattle.std.proofs.Common.{sym, ap, ◌∙◌}
use Rattle.br_model.specs.Plane.Chip.{offers}
use Rattle.learn_report.specs.Reports.{chip_of}
use Rattle.learn_report.proofs.noting.offer.Goals as goal

pub returns-in-Some : goal.returns-in-Some
returns-in-Some c dom n = c.offer_report.ensures dom n ∙ ap (λ o. offers c.args.port o (chip_of dom n c.args.reports.now)) (sym c.in-Some.is)

pub returns-in-None : goal.returns-in-None
returns-in-None c dom n = ap (λ o. offers c.args.port o (chip_of dom n c.args.reports.now)) (sym c.in-None.is)
