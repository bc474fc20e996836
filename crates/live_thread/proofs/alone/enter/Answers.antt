use Rattle.std.proofs.Common.{[], ◌∷◌, sym, ap, subst, ◌∙◌}
use Rattle.std.proofs.lemmas.Result.{on_ok_weaker}
use Rattle.br_model.specs.declared.steps.Step.TheVariants.{Rx, Serve}
use Rattle.plane_record.specs.Pasts.{acted}
use Rattle.plane_record.specs.Pasts.{Past}
use Rattle.live_thread.specs.Taking.{Takes}
use Rattle.live_thread.proofs.Takings.{entered, entered_served}
use Rattle.live_thread.proofs.alone.enter.Goals as goal

pub returns-then-waiting-gt0-clause-ok : goal.returns-then-waiting-gt0-clause-ok
returns-then-waiting-gt0-clause-ok g c =
    on_ok_weaker c.serve.result
    (λ e. subst (λ (p : Past). Takes c.args.ran.now p (Rx c.args.port c.args.bytes.now ∷ [])) (sym (e ∙ ap (λ (p : Past). acted p Serve) c.in_ok-enter.ensures.ok))
    (entered_served c.args.ran.now c.args.port c.args.bytes.now))
    c.serve.ensures.ok

pub returns-else-waiting-gt0-clause-ok : goal.returns-else-waiting-gt0-clause-ok
returns-else-waiting-gt0-clause-ok g c =
    subst (λ (p : Past). Takes c.args.ran.now p (Rx c.args.port c.args.bytes.now ∷ [])) (sym c.in_ok-enter.ensures.ok) (entered c.args.ran.now c.args.port c.args.bytes.now)
