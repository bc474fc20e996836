use Rattle.std.proofs.Common.{cond, None, Some, ap, ◌∙◌}
use Rattle.br_model.specs.Control.Learning.{is_reserved}
use Rattle.chip_pipeline.proofs.Sightings.{report-is}
use Rattle.chip_pipeline.proofs.sources.sight_in.Goals as goal

pub returns-clause-report : goal.returns-clause-report
returns-clause-report c d dom t stands =
    c.where_so.ensures
    ∙ report-is t c.args.port c.args.vid c.args.head.now.src (is_reserved t c.args.head.now) c.is_reported.result
    (c.is_reported.ensures d dom t stands (c.address_row-entry.ensures d dom t stands))

pub returns-clause-hit : goal.returns-clause-hit
returns-clause-hit c d dom t stands =
    c.where_so-2.ensures
    ∙ ap (λ b. cond b (Some (c.args.vid, c.args.head.now.src)) None) (c.is_at.ensures t c.args.vid c.args.head.now.src (c.address_row-entry.ensures d dom t stands))
