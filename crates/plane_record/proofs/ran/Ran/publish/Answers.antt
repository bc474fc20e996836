use Rattle.std.proofs.Common.{refl}
use Rattle.br_model.specs.declared.steps.Step.TheVariants.{Publish}
use Rattle.plane_record.proofs.Recording.{Recorded, recorded}
use Rattle.plane_record.proofs.ran.Ran.publish.Given as given
use Rattle.plane_record.proofs.ran.Ran.publish.Goals as goal

done : (g : given.Over) (c : goal.After-write_down g) → Recorded c.publish_to.new.self c.write_down.new.steps.items Publish c.write_down.new.lines.lines c.write_down.result.lines c.args.self.now
done g c =
    let ready = c.make_ready in
    let down = c.write_down in
    recorded c.self.inside.plane c.publish_to.new.self c.self.inside.steps.items ready.new.steps.items down.new.steps.items Publish
    c.self.inside.lines ready.new.lines c.publish_to.new.lines down.new.lines down.result.lines c.args.self.now c.self.invariant c.self.view_is
    ready.ensures.steps ready.ensures.lines ready.ensures.saved
    c.in_ok-publish_to.ensures.ok c.in_ok-publish_to.ensures.saved
    down.ensures.steps down.ensures.lines down.ensures.said refl

pub invariant_of-self-2 : goal.invariant_of-self-2
invariant_of-self-2 g c = (done g c).ran

pub returns-clause-ok : goal.returns-clause-ok
returns-clause-ok g c = (done g c).reached

pub returns-clause-lines : goal.returns-clause-lines
returns-clause-lines g c = (done g c).said
