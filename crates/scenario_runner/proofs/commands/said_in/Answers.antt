use Rattle.scenario_runner.specs.Speaking.{answer_by}
use Rattle.scenario_runner.proofs.Ends.{said_at_end, yields_stop}
use Rattle.scenario_runner.proofs.commands.said_in.Goals as goal

pub returns-in-Ok-clause-says : goal.returns-in-Ok-clause-says
returns-in-Ok-clause-says g c =
    said_at_end _ _ c.args.session.now.voice c.play.new.session _ _ _ c.in-Ok.ensures.plays.2 c.in-Ok.ensures.same c.in_ok-take_said-in-Ok.ensures

pub returns-in-Err-Stopped-clause-says : goal.returns-in-Err-Stopped-clause-says
returns-in-Err-Stopped-clause-says g c =
    let plays = rw c.in-Err-Stopped.field-0-is at c.in-Err-Stopped.ensures.plays in
    rw c.in-Err-Stopped.stop-is (yields_stop (g.S.Source.left c.args.source.now) (g.S.Source.left c.play.new.source) _ _ _ (answer_by c.args.session.now.voice) c.in-Err-Stopped.stop plays)
