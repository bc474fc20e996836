use Rattle.std.proofs.Common.{ap, ◌∙◌}
use Rattle.std.proofs.lemmas.Result.{IfOk-weaker}
use Rattle.std.specs.List.{list_all}
use Rattle.live_workers.proofs.Givens.{taken-given}
use Rattle.live_workers.proofs.run.take_steps.Goals as goal

pub returns-in-Some-clause-given : goal.returns-in-Some-clause-given
returns-in-Some-clause-given g c =
    let is_taken = rw c.in-Some.is at c.in_ok-taken.ensures in
    λ sc own given p all. taken-given p c.in-Some.taken.book.steps sc (is_taken.live sc own given) (ap (list_all p) given ∙ all)

pub returns-in-None-clause-given : goal.returns-in-None-clause-given
returns-in-None-clause-given g c =
    IfOk-weaker c.run_alone.result _ _ (λ t live sc own given p all. taken-given p t.book.steps sc (live sc own given) (ap (list_all p) given ∙ all)) c.run_alone.ensures.live
