use Rattle.std.proofs.Common.{arith}
use Rattle.stp_core.proofs.Reading.{empty-put}
use Rattle.stp_core.proofs.places.put.Goals as goal

pub returns-clause-empty : goal.returns-clause-empty
returns-clause-empty c n low empty = empty-put n n c.from.result c.args.x c.args.places.now empty (omega (arith, c.from.ensures, low)) (omega arith)
