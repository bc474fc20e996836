use Rattle.std.proofs.Common.{[], ◌∷◌, OnOk, refl, sym, subst}
use Rattle.std.proofs.lemmas.Result.{on_ok_weaker}
use Rattle.br_model.specs.declared.steps.Step.{Step}
use Rattle.br_model.specs.declared.steps.Step.TheVariants.{Cmd, Now, Sweep}
use Rattle.br_model.proofs.Plane.Stays.{step-held}
use Rattle.plane_record.specs.Pasts.{Past, world_of}
use Rattle.live_thread.specs.Taking.{Takes}
use Rattle.live_thread.proofs.Takings.{acted_takes}
use Rattle.live_thread.proofs.alone.take_step.Goals as goal

pub returns-in-Cmd-clause-ok : goal.returns-in-Cmd-clause-ok
returns-in-Cmd-clause-ok g c =
    let p = c.args.ran.now in
    let s = Cmd c.in-Cmd.command in
    subst (λ (t : Step). OnOk c.accept.result (Takes p c.accept.new.ran (t ∷ []))) (sym c.in-Cmd.is)
    (on_ok_weaker c.accept.result (λ e. subst (λ (q : Past). Takes p q (s ∷ [])) (sym e) (acted_takes p s (s ∷ []) (λ port. refl) refl (step-held (world_of p) s))) c.accept.ensures)

pub returns-in-Now-clause-ok : goal.returns-in-Now-clause-ok
returns-in-Now-clause-ok g c =
    let p = c.args.ran.now in
    let s = Now c.in-Now.moment in
    subst (λ (t : Step). OnOk c.accept-in-Now.result (Takes p c.accept-in-Now.new.ran (t ∷ []))) (sym c.in-Now.is)
    (on_ok_weaker c.accept-in-Now.result (λ e. subst (λ (q : Past). Takes p q (s ∷ [])) (sym e) (acted_takes p s (s ∷ []) (λ port. refl) refl (step-held (world_of p) s))) c.accept-in-Now.ensures)

pub returns-in-Sweep-clause-ok : goal.returns-in-Sweep-clause-ok
returns-in-Sweep-clause-ok g c =
    let p = c.args.ran.now in
    let s = Sweep c.in-Sweep.dom in
    subst (λ (t : Step). OnOk c.sweep.result (Takes p c.sweep.new.ran (t ∷ []))) (sym c.in-Sweep.is)
    (on_ok_weaker c.sweep.result (λ e. subst (λ (q : Past). Takes p q (s ∷ [])) (sym e) (acted_takes p s (s ∷ []) (λ port. refl) refl (step-held (world_of p) s))) c.sweep.ensures)
