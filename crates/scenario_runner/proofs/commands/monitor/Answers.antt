use Rattle.scenario_runner.proofs.Ends.{monitored_is}
use Rattle.run_world.proofs.Saying.{silent_monitor}
use Rattle.scenario_runner.proofs.commands.monitor.Goals as goal

pub speak-requires : goal.speak-requires
speak-requires g c = silent_monitor c.new.result _ c.new.ensures

pub returns-clause-outcome : goal.returns-clause-outcome
returns-clause-outcome g c = rw (monitored_is c.new.result) at c.speak.ensures.outcome
