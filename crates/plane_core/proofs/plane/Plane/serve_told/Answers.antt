use Rattle.plane_core.proofs.Calling.{stands_served}
use Rattle.plane_core.proofs.plane.Plane.serve_told.Goals as goal

pub invariant_of-self-2 : goal.invariant_of-self-2
invariant_of-self-2 c =
    stands_served c.self.inside.sides c.serve.new.self c.self.inside.frames c.serve-frame.new.self c.self.inside.steps c.in_ok-step.step c.in-Some.frame.now _ c.in_ok-step.ensures c.in-Some.ensures
    c.in_ok-serve.ensures.ok.so c.serve-frame.ensures.rest c.self.invariant
