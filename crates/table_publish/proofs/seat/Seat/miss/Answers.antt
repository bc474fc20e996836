use Rattle.table_publish.proofs.Objects.{published_of}
use Rattle.table_publish.proofs.seat.Seat.miss.Goals as goal

pub returns-clause-published : goal.returns-clause-published
returns-clause-published c = published_of c.self.inside.seen.log c.self.invariant.full
