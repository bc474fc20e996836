use Rattle.plane_core.proofs.Calling.{stands_first}
use Rattle.plane_core.proofs.plane.Plane.make.Goals as goal

pub invariant_of-result : goal.invariant_of-result
invariant_of-result g c = stands_first c.in-Ok.begun.0.setup c.args.b.board c.over.result c.in-Ok.frames c.over.ensures c.in-Ok.ensures.frames
