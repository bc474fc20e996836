use Rattle.std.proofs.Common.{◌∙◌, string_bytes}
use Rattle.scenario_reader.specs.declared.reader.Last.{Last}
use Rattle.scenario_runner.proofs.Ends.{calm_ends, read_failed, replays_break, replays_end, replays_nothing, replays_stop}
use Rattle.run_status.proofs.Ends.{calm_stops}
use Rattle.scenario_runner.proofs.commands.replay_in.Goals as goal

pub returns-in_default-clause-outcome : goal.returns-in_default-clause-outcome
returns-in_default-clause-outcome g c =
    let ends = c.end_without_memory.ensures in
    replays_nothing _ _ _ _ ends.status ends.whole ends.front _

pub returns-in-Ok-play-clause-outcome : goal.returns-in-Ok-play-clause-outcome
returns-in-Ok-play-clause-outcome g c =
    let ends = c.end_with.ensures in
    replays_end _ _ _ _ _ _ _ _ _ c.in-Ok-play.last c.in-Ok-play.ensures.plays c.play.ensures.behind (λ n. ends.status n ∙ c.status_of.ensures) ends.whole
    (λ e. ends.front e (calm_ends _ _ c.status_of.ensures))

pub returns-in-Err-Stopped-clause-outcome : goal.returns-in-Err-Stopped-clause-outcome
returns-in-Err-Stopped-clause-outcome g c =
    let plays = rw c.in-Err-Stopped.field-0-is at c.in-Err-Stopped.ensures.plays in
    let cause = rw c.in-Err-Stopped.field-0-is at c.in-Err-Stopped.ensures.cause in
    let ends = rw c.line.ensures at c.end_with-in-Err-Stopped.ensures in
    replays_stop _ _ _ _ _ _ _ _ c.in-Err-Stopped.stop plays c.play.ensures.behind
    (read_failed Last _ _ (g.K.Sink.faults c.args.sink.now) (g.K.Sink.faults c.play.new.sink) c.in-Err-Stopped.stop cause)
    (λ n. ends.status n ∙ c.status.ensures) ends.whole (λ e. ends.front e (calm_stops _ _ c.status.ensures))

pub returns-clause-outcome : goal.returns-clause-outcome
returns-clause-outcome g c =
    let plays = rw c.in-Err-WriteFault.field-0-is at c.in-Err-WriteFault.ensures.plays in
    replays_break _ _ _ _ _ (string_bytes c.play.new.output.text) plays c.play.ensures.behind
