use Rattle.std.proofs.Common.{true, sym, ap, ◌∙◌, subst}
use Rattle.br_model.specs.declared.steps.Step.{Step}
use Rattle.br_model.specs.Table.Domains.{chip_domains}
use Rattle.br_model.specs.Text.LineForms.{comes_by_line}
use Rattle.plane_parts.specs.Added.{Added}
use Rattle.plane_core.specs.Planes.{Steps}
use Rattle.plane_record.specs.Pasts.{after, said_by}
use Rattle.plane_record.proofs.Recording.{Recorded, recorded, accepted, event-comes}
use Rattle.plane_record.proofs.ran.Ran.accept.Goals as goal

done : (c : goal.After-write_down) → Recorded c.accept_to.new.self c.write_down.new.steps.items c.step_of-step.result c.write_down.new.lines.lines c.write_down.result.lines c.args.self.now
done c =
    let ready = c.make_ready in
    let down = c.write_down in
    recorded c.self.inside.plane c.accept_to.new.self c.self.inside.steps.items ready.new.steps.items down.new.steps.items c.step_of-step.result
    c.self.inside.lines ready.new.lines c.accept_to.new.lines down.new.lines down.result.lines c.args.self.now c.self.invariant c.self.view_is
    ready.ensures.steps ready.ensures.lines ready.ensures.saved
    (subst (λ (s : Step). Added (Steps c.self.inside.plane c.accept_to.new.self s) c.make_ready.new.lines.lines c.accept_to.new.lines.lines) (sym c.step_of-step.ensures)
    (accepted c.args.e.now c.self.inside.plane c.accept_to.new.self c.make_ready.new.lines.lines c.accept_to.new.lines.lines c.in_ok-accept_to.ensures.ok)) c.in_ok-accept_to.ensures.saved
    down.ensures.steps down.ensures.lines down.ensures.said (let chips = chip_domains c.self.inside.plane.world.setup.domains in
    ap (comes_by_line true chips) c.step_of-step.ensures ∙ event-comes chips c.args.e.now c.requires)

pub invariant_of-self-2 : goal.invariant_of-self-2
invariant_of-self-2 c = (done c).ran

pub returns-clause-ok : goal.returns-clause-ok
returns-clause-ok c = (done c).reached ∙ ap (after c.args.self.now) c.step_of-step.ensures

pub returns-clause-lines : goal.returns-clause-lines
returns-clause-lines c = (done c).said ∙ ap (said_by c.args.self.now) c.step_of-step.ensures
