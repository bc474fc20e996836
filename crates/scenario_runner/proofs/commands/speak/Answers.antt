use Rattle.std.proofs.Common.{◌∙◌, String}
use Rattle.std.specs.declared.alloc.Global.{Global}
use Rattle.scenario_reader.specs.declared.reader.Last.{Last}
use Rattle.scenario_runner.specs.Speaking.{answer_by}
use Rattle.scenario_runner.proofs.Ends.{calm_ends, answered_same, yield_ends, yield_stops}
use Rattle.run_status.proofs.Ends.{calm_stops, read_stopped}
use Rattle.scenario_runner.proofs.commands.speak.Goals as goal

pub returns-in-Ok-clause-outcome : goal.returns-in-Ok-clause-outcome
returns-in-Ok-clause-outcome g c =
    let ends = rw c.as_bytes.ensures.value at c.put_last.ensures in
    yield_ends _ _ _ _ _ _ (answer_by c.args.voice) (answered_same c.args.voice) (c.in-Ok.last, c.in-Ok.text) c.in-Ok.ensures.says (λ n. ends.status n ∙ c.status_of.ensures) ends.whole
    (λ e. ends.front e (calm_ends _ _ c.status_of.ensures))

pub returns-in-Err-clause-outcome : goal.returns-in-Err-clause-outcome
returns-in-Err-clause-outcome g c =
    let ends = rw c.line.ensures at c.put_last-in-Err.ensures in
    yield_stops _ _ _ _ _ _ (answer_by c.args.voice) c.in-Err.stop c.in-Err.ensures.says (read_stopped (Last × String Global) _ _ c.in-Err.stop c.in-Err.ensures.cause)
    (λ n. ends.status n ∙ c.status.ensures) ends.whole (λ e. ends.front e (calm_stops _ _ c.status.ensures))
