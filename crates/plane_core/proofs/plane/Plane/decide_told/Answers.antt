use Rattle.plane_core.proofs.Calling.{oldest_decided}
use Rattle.plane_core.proofs.plane.Plane.decide_told.Goals as goal

pub returns-in_ok-decide-in-Some-clause-decides : goal.returns-in_ok-decide-in-Some-clause-decides
returns-in_ok-decide-in-Some-clause-decides c =
    oldest_decided c.args.self.now c.self.inside.sides c.self.inside.frames c.self.inside.steps _ c.in-Some.frame.now _ c.self.view_is c.in-Some.ensures c.id.ensures
    c.in_ok-decide-in-Some.ensures.verdict
