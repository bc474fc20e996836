use Rattle.std.proofs.Common.{sym, ap, ◌∙◌}
use Rattle.std.proofs.lemmas.Result.{on_ok_weaker}
use Rattle.br_model.specs.Plane.Chip.{hits_entry}
use Rattle.learn_report.specs.Reports.{chip_of}
use Rattle.learn_report.proofs.noting.hit.Goals as goal

pub returns-in-Some-clause-ok : goal.returns-in-Some-clause-ok
returns-in-Some-clause-ok c =
    on_ok_weaker c.hit.result (λ e dom n. ap (chip_of dom n) e ∙ ap (λ o. hits_entry o (chip_of dom n c.args.reports.now)) (sym c.in-Some.is)) c.hit.ensures.ok

pub returns-in-None-clause-ok : goal.returns-in-None-clause-ok
returns-in-None-clause-ok c dom n = ap (λ o. hits_entry o (chip_of dom n c.args.reports.now)) (sym c.in-None.is)
