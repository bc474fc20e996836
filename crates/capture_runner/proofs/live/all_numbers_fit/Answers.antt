use Rattle.std.proofs.Common.{ap, sym, ◌∙◌}
use Rattle.std.specs.List.{list_all}
use Rattle.std.proofs.lemmas.List.{take_all}
use Rattle.std.proofs.lemmas.List.Folds.{list_all_more}
use Rattle.std.proofs.lemmas.Bool.{and_from}
use Rattle.capture_runner.specs.Living.{is_numbered}
use Rattle.capture_runner.proofs.live.all_numbers_fit.Goals as goal

pub loop-step-preserved : goal.loop-step-preserved
loop-step-preserved c =
    list_all_more is_numbered c.args.steps.now c.loop-step.step-index c.step-item.result c.loop-step-test.true
    ∙ and_from _ _ c.loop-step.invariant (ap is_numbered (sym c.step-item.is) ∙ c.numbers_fit.ensures)

pub returns : goal.returns
returns c =
    ap (list_all is_numbered) (sym (take_all c.loop-step.step-index c.args.steps.now c.loop-step-test.false)) ∙ c.loop-step.invariant
