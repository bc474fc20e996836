use Rattle.std.proofs.Common.{sym, ◌∙◌}
use Rattle.chip_pipeline.proofs.Sightings.{hit-of-frame, report-of-frame}
use Rattle.chip_pipeline.proofs.sources.sight.Goals as goal

pub returns-in-Some-clause-report : goal.returns-in-Some-clause-report
returns-in-Some-clause-report c d dom t stands is =
    c.sight_in.ensures.report d dom t stands
    ∙ report-of-frame t c.args.port c.in-Some.vid c.args.head.now (sym c.has_valid_source.ensures ∙ c.if-not-has_valid_source.false) (sym c.in-Some.is ∙ is)

pub returns-in-Some-clause-hit : goal.returns-in-Some-clause-hit
returns-in-Some-clause-hit c d dom t stands is =
    c.sight_in.ensures.hit d dom t stands
    ∙ hit-of-frame t c.args.port c.in-Some.vid c.args.head.now (sym c.has_valid_source.ensures ∙ c.if-not-has_valid_source.false) (sym c.in-Some.is ∙ is)
