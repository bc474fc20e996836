use Rattle.plane_lock.proofs.Posting.{count-if}
use Rattle.plane_lock.proofs.chair.Chair.lookup.Goals as goal

pub returns-clause-count : goal.returns-clause-count
returns-clause-count g c = count-if c.lookup.result c.lookup.new.self.object c.lookup.ensures.published c.lookup.ensures.point
