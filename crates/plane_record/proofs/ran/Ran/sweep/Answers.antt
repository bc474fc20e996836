use Rattle.std.proofs.Common.{ap, ◌∙◌}
use Rattle.br_model.specs.declared.steps.Step.TheVariants.{Sweep}
use Rattle.br_model.specs.Table.Domains.{has_chip}
use Rattle.plane_record.specs.Pasts.{Past}
use Rattle.plane_record.proofs.Recording.{Recorded, recorded}
use Rattle.plane_record.proofs.ran.Ran.sweep.Goals as goal

done : (c : goal.After-write_down) → Recorded c.sweep_to.new.self c.write_down.new.steps.items (Sweep c.args.d) c.write_down.new.lines.lines c.write_down.result.lines c.args.self.now
done c =
    let ready = c.make_ready in
    let down = c.write_down in
    recorded c.self.inside.plane c.sweep_to.new.self c.self.inside.steps.items ready.new.steps.items down.new.steps.items (Sweep c.args.d)
    c.self.inside.lines ready.new.lines c.sweep_to.new.lines down.new.lines down.result.lines c.args.self.now c.self.invariant c.self.view_is
    ready.ensures.steps ready.ensures.lines ready.ensures.saved
    c.in_ok-sweep_to.ensures.ok c.in_ok-sweep_to.ensures.saved
    down.ensures.steps down.ensures.lines down.ensures.said (ap (λ (x : Past). has_chip x.setup.domains c.args.d) c.self.view_is ∙ c.requires)

pub invariant_of-self-2 : goal.invariant_of-self-2
invariant_of-self-2 c = (done c).ran

pub returns-clause-ok : goal.returns-clause-ok
returns-clause-ok c = (done c).reached

pub returns-clause-lines : goal.returns-clause-lines
returns-clause-lines c = (done c).said
