use Rattle.std.proofs.Common.{ap₂, ◌∙◌}
use Rattle.mcast_querier.specs.Runs.{queried}
use Rattle.scenario_runner.proofs.Ends.{queried_is}
use Rattle.run_world.proofs.Saying.{silent_querier}
use Rattle.scenario_runner.proofs.commands.querier.Goals as goal

pub speak-requires : goal.speak-requires
speak-requires g c = silent_querier c.new-asking.result _ c.new-asking.ensures.host c.new-asking.ensures.text

pub returns-clause-outcome : goal.returns-clause-outcome
returns-clause-outcome g c =
    let is = queried_is c.new-asking.result ∙ ap₂ queried c.new-asking.ensures.four c.new-asking.ensures.six in
    rw is at c.speak.ensures.outcome
