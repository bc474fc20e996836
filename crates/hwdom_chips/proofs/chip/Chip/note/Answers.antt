use Rattle.std.proofs.Common.{ap, ◌∙◌}
use Rattle.br_model.specs.Plane.Chip.{Chip, offers, hits_entry}
use Rattle.br_model.proofs.Plane.Noting.{either_order}
use Rattle.hwdom_chips.specs.Chips.{ChipState}
use Rattle.learn_report.specs.Reports.{chip_of}
use Rattle.hwdom_chips.proofs.chip.Chip.note.Goals as goal

pub returns-clause-ok : goal.returns-clause-ok
returns-clause-ok c =
    let dom = c.self.inside.driver.dom in
    let k = c.self.inside.driver.count in
    ap (λ (x : Chip). record { driver = c.self.inside.driver; chip = x })
    (c.offer.ensures dom k ∙ ap (offers c.args.port c.args.station) (c.in_ok-hit.ensures.ok dom k) ∙ either_order (chip_of dom k c.self.inside.reports) c.args.port c.args.station c.args.entry)
    ∙ ap (λ (s : ChipState). record s { chip = hits_entry c.args.entry (offers c.args.port c.args.station s.chip) }) c.self.view_is
