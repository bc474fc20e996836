use Rattle.std.proofs.Common.{ap}
use Rattle.deferred_queue.proofs.Moves.{takes, takes_learns}
use Rattle.deferred_queue.proofs.ends.Taker.look.Goals as goal

pub pop_as-requires-clause-rule : goal.pop_as-requires-clause-rule
pop_as-requires-clause-rule g c = let may = ap (λ v. v.takes) c.self.invariant.1 in (takes _ _ may, takes_learns _ _ may)
