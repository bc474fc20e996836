use Rattle.std.proofs.Common.{ℕ, sym, ap, ◌∙◌, arith}
use Rattle.std.specs.List.{filter}
use Rattle.br_model.specs.Plane.World.{chip_at}
use Rattle.live_book.specs.Ends.{has_reports_at}
use Rattle.live_book.proofs.Reporting.{reporting_is}
use Rattle.plane_record.specs.Pasts.{world_of}
use Rattle.plane_record.proofs.Recording.{has-own-chip}
use Rattle.live_workers.proofs.Places.{all_found, chip_of_place}
use Rattle.live_workers.proofs.remains.reporting.Goals as goal

pub first_report-requires : goal.first_report-requires
first_report-requires c =
    has-own-chip c.args.ran.now c.plane.result.now c.dom-item.result c.plane.ensures
    (chip_of_place c.args.ran.now.setup.domains c.args.chips.now c.loop-dom.dom-index c.dom-item.result c.requires (omega arith) c.dom-item.is)

pub returns : goal.returns
returns c =
    let p = λ (d : ℕ). has_reports_at (chip_at (world_of c.args.ran.now) d) in
    all_found p c.args.chips.now c.loop-dom.doms c.loop-dom.dom-index (omega arith) c.loop-dom.invariant
    ∙ (ap (filter p) c.requires ∙ sym (reporting_is c.args.ran.now.setup c.args.ran.now.steps))
