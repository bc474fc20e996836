use Rattle.std.proofs.Common.{arith}
use Rattle.deferred_queue.proofs.Counts.{counts}
use Rattle.deferred_queue.proofs.tally.Tally.count.Goals as goal

pub store-requires : goal.store-requires
store-requires c = (c.requires.watch.0, omega (arith, c.args.self.now.sized), counts _ _ _ _ c.requires.watch.1 c.requires.next)
