use Rattle.scenario_play.proofs.Steps.{can_step, done_told}
use Rattle.scenario_play.proofs.play.do_step.Goals as goal

pub step-requires-clause-can : goal.step-requires-clause-can
step-requires-clause-can g c =
    can_step c.args.roster.now (g.W.Stage.stands c.args.stage.now) (g.W.Stage.stands c.begin.new.stage) c.args.step c.in_ok-begin.ensures c.requires.by_line

pub returns : goal.returns
returns g c =
    done_told c.step.result c.args.roster.now (g.W.Stage.stands c.args.stage.now) (g.W.Stage.stands c.begin.new.stage) (g.W.Stage.stands c.step.new.self) c.args.step _ _
    c.in_ok-begin.ensures c.requires.empty c.step.ensures
