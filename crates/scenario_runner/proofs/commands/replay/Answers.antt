use Rattle.scenario_runner.proofs.Ends.{replays_nothing}
use Rattle.scenario_runner.proofs.commands.replay.Goals as goal

pub returns-in-Err-clause-outcome : goal.returns-in-Err-clause-outcome
returns-in-Err-clause-outcome g c =
    let ends = c.end_without_memory.ensures in
    replays_nothing _ _ _ _ ends.status ends.whole ends.front _
