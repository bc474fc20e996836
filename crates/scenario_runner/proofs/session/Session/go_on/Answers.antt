use Rattle.scenario_runner.proofs.Ready.{ready_told}
use Rattle.scenario_runner.proofs.session.Session.go_on.Goals as goal

pub returns-in-Some-clause-ready : goal.returns-in-Some-clause-ready
returns-in-Some-clause-ready g c =
    ready_told c.do_step.result c.args.self.now.reader.roster c.in-Some.world c.do_step.new.world c.args.self.now.voice c.do_step.new.voice c.args.step _ _
    (rw c.in-Some.is at c.requires.ready) c.do_step.ensures.tells c.do_step.ensures.tuned
