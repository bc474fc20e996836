use Rattle.live_thread.proofs.Standing.{idle_first}
use Rattle.live_workers.proofs.run.make.Goals as goal

pub open-requires-clause-idle : goal.open-requires-clause-idle
open-requires-clause-idle g c = idle_first c.args.ran.now c.requires.none
