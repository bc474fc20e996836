use Rattle.plane_core.proofs.Calling.{stands_accepted}
use Rattle.plane_core.proofs.plane.Plane.accept_to.Goals as goal

pub invariant_of-self-2 : goal.invariant_of-self-2
invariant_of-self-2 c =
    stands_accepted c.args.event.now c.requires c.self.inside.sides c.answer.new.self c.self.inside.frames c.self.inside.steps c.in_ok-step.step _
    c.in_ok-step.ensures c.in_ok-answer.ensures.ok.so c.self.invariant
