use Rattle.std.proofs.Common.{◌∙◌, String}
use Rattle.std.specs.declared.alloc.Global.{Global}
use Rattle.scenario_reader.specs.declared.reader.Last.{Last}
use Rattle.scenario_runner.proofs.Ends.{calm_ends}
use Rattle.capture_runner.proofs.Outcomes.{live_ends, live_stops}
use Rattle.run_status.proofs.Ends.{calm_stops, read_stopped}
use Rattle.capture_runner.proofs.live.live.Goals as goal

pub returns-in-Ok-clause-outcome : goal.returns-in-Ok-clause-outcome
returns-in-Ok-clause-outcome g c =
    let ends = rw c.as_bytes.ensures.value at c.put_last.ensures in
    live_ends _ _ _ _ _ _ c.in-Ok.last _ c.in-Ok.ensures.yields (λ n. ends.status n ∙ c.status_of.ensures) ends.whole (λ e. ends.front e (calm_ends _ _ c.status_of.ensures))

pub returns-in-Err-clause-outcome : goal.returns-in-Err-clause-outcome
returns-in-Err-clause-outcome g c =
    let ends = rw c.line.ensures at c.put_last-in-Err.ensures in
    live_stops _ _ _ _ _ _ c.in-Err.stop c.in-Err.ensures.yields (read_stopped (Last × String Global) _ _ c.in-Err.stop c.in-Err.ensures.cause)
    (λ n. ends.status n ∙ c.status.ensures) ends.whole (λ e. ends.front e (calm_stops _ _ c.status.ensures))
