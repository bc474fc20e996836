use Rattle.std.proofs.lemmas.Result.{on_ok_weaker}
use Rattle.run_world.proofs.Monitoring.{says_more}
use Rattle.run_world.proofs.voice.do_step.Goals as goal

pub returns-in-Monitor-clause-says : goal.returns-in-Monitor-clause-says
returns-in-Monitor-clause-says g c =
    rw c.in-Monitor.is (on_ok_weaker c.step-in-Monitor.result
    (λ text setup steps at said. says_more c.args.world.now c.args.step _ _ setup steps text at said)
    c.step-in-Monitor.ensures.text)

pub returns-in-Querier-clause-says : goal.returns-in-Querier-clause-says
returns-in-Querier-clause-says g c = rw c.in-Querier.is c.step-in-Querier.ensures.says
