use Rattle.std.proofs.Common.{ℕ, List, refl, sym, ap, ◌∙◌, subst}
use Rattle.br_model.specs.declared.steps.Step.TheVariants.{Rx}
use Rattle.plane_parts.specs.Added.{Added}
use Rattle.plane_core.specs.Planes.{Steps}
use Rattle.plane_record.specs.Pasts.{after, said_by}
use Rattle.plane_record.proofs.Recording.{Recorded, recorded}
use Rattle.plane_record.proofs.ran.Ran.enter.Goals as goal

done : (c : goal.After-write_down-lines)
    → Recorded c.enter_to.new.self c.write_down-lines.new.steps.items (Rx c.args.p c.in_ok-bytes.bytes) c.write_down-lines.new.lines.lines c.write_down-lines.result.lines c.args.self.now
done c =
    let ready = c.make_ready in
    let down = c.write_down-lines in
    recorded c.self.inside.plane c.enter_to.new.self c.self.inside.steps.items ready.new.steps.items down.new.steps.items (Rx c.args.p c.in_ok-bytes.bytes)
    c.self.inside.lines ready.new.lines c.enter_to.new.lines down.new.lines down.result.lines c.args.self.now c.self.invariant c.self.view_is
    ready.ensures.steps ready.ensures.lines ready.ensures.saved
    (subst (λ (b : List ℕ). Added (Steps c.self.inside.plane c.enter_to.new.self (Rx c.args.p b)) c.make_ready.new.lines.lines c.enter_to.new.lines.lines)
    (c.in_ok-frame.ensures ∙ sym c.in_ok-bytes.ensures) c.in_ok-pass.ensures.step) c.in_ok-pass.ensures.saved
    down.ensures.steps down.ensures.lines down.ensures.said refl

pub invariant_of-self-2 : goal.invariant_of-self-2
invariant_of-self-2 c = (done c).ran

pub returns-clause-ok : goal.returns-clause-ok
returns-clause-ok c = (done c).reached ∙ ap (λ (b : List ℕ). after c.args.self.now (Rx c.args.p b)) c.in_ok-bytes.ensures

pub returns-clause-lines : goal.returns-clause-lines
returns-clause-lines c = (done c).said ∙ ap (λ (b : List ℕ). said_by c.args.self.now (Rx c.args.p b)) c.in_ok-bytes.ensures
