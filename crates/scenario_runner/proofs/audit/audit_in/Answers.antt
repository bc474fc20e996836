use Rattle.chip_audit.specs.Lines.{audited}
use Rattle.scenario_runner.proofs.Auditing.{audited_by}
use Rattle.scenario_runner.proofs.Ends.{yields_stop}
use Rattle.scenario_runner.proofs.audit.audit_in.Goals as goal

pub returns-in-Ok-clause-audits : goal.returns-in-Ok-clause-audits
returns-in-Ok-clause-audits g c = audited_by _ _ _ _ _ _ c.in-Ok.ensures.plays.2 c.in_ok-audit-in-Ok.ensures

pub returns-in-Err-Stopped-clause-audits : goal.returns-in-Err-Stopped-clause-audits
returns-in-Err-Stopped-clause-audits g c =
    let plays = rw c.in-Err-Stopped.field-0-is at c.in-Err-Stopped.ensures.plays in
    rw c.in-Err-Stopped.stop-is (yields_stop (g.S.Source.left c.args.source.now) (g.S.Source.left c.play.new.source) _ _ _ audited c.in-Err-Stopped.stop plays)
