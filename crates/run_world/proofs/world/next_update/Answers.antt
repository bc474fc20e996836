use Rattle.run_world.proofs.Monitoring.{next_is}
use Rattle.run_world.proofs.world.next_update.Goals as goal

pub returns : goal.returns
returns c = next_is c.args.plane.now.world c.args.dom _ _ c.applied.ensures c.update.ensures
