use Rattle.plane_parts.proofs.Keeping.{serves}
use Rattle.plane_parts.proofs.frames.Frames.serve.Goals as goal

pub invariant_of-self : goal.invariant_of-self
invariant_of-self c = (rw c.take_oldest.ensures.capacity c.self.invariant.0, c.self.invariant.1, rw c.take_oldest.ensures.rest (serves _ c.self.invariant.2))
