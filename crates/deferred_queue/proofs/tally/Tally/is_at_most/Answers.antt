use Rattle.std.proofs.Common.{arith}
use Rattle.deferred_queue.proofs.Counts.{looks}
use Rattle.deferred_queue.proofs.tally.Tally.is_at_most.Goals as goal

pub compare_exchange-requires : goal.compare_exchange-requires
compare_exchange-requires c = (c.requires.0, omega (arith, c.args.self.now.sized), looks _ _ _ _ c.requires.1)
