use Rattle.std.proofs.Common.{ap, ◌∙◌}
use Rattle.learn_report.specs.Reports.{chip_of}
use Rattle.learn_report.proofs.Notes.{offered_as}
use Rattle.learn_report.proofs.noting.offer_report.Goals as goal

pub returns : goal.returns
returns c dom n =
    ap (chip_of dom n) c.offer-kept.ensures.kept
    ∙ offered_as dom n c.args.reports.now (c.args.vid, c.args.mac, c.args.port) c.offer-kept.result c.offer-kept.ensures.value
