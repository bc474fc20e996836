use Rattle.br_model.specs.declared.steps.Step.TheVariants.{Now}
use Rattle.plane_parts.proofs.Adding.{added_as}
use Rattle.check_world.proofs.Worlds.{tells_so}
use Rattle.check_world.proofs.world.World.moment.Goals as goal

pub returns : goal.returns
returns c =
    let x = c.self.inside in
    added_as _ _ _ _
    (λ told h. tells_so c.args.self.now x.sides c.answer.new.self x.frames x.frames x.steps c.in_ok-step.step (Now c.args.moment) told c.self.view_is c.in_ok-step.ensures (h x.frames))
    c.in_ok-answer.ensures
