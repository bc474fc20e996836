use Rattle.std.proofs.Common.{Option, ap, ap₂, ◌∙◌}
use Rattle.br_model.specs.Control.Learning.{Address}
use Rattle.br_model.specs.Plane.Chip.{Chip, hits_entry, notes, offers}
use Rattle.br_model.proofs.Plane.Noting.{either_order}
use Rattle.check_world.specs.Cuts.{CutState}
use Rattle.learn_report.specs.Reports.{chip_of}
use Rattle.check_world.proofs.cut.Cut.note.Goals as goal

pub returns-clause-ok : goal.returns-clause-ok
returns-clause-ok c =
    let x = c.self.inside in
    let chip = chip_of x.dom x.count x.reports in
    ap (λ (k : Chip). record { table = x.tables; chip = k }) (
    c.offer.ensures x.dom x.count
    ∙ ap (offers c.args.port c.station-station.result) (c.in_ok-hit.ensures.ok x.dom x.count)
    ∙ either_order chip c.args.port c.station-station.result c.entry-entry.result
    ∙ ap₂ (λ (station entry : Option Address). hits_entry entry (offers c.args.port station chip)) c.station-station.ensures c.entry-entry.ensures
    )
    ∙ ap (λ (s : CutState). record { table = s.table; chip = notes c.args.self.now.table c.args.port c.args.head.now s.chip }) c.self.view_is
