use Rattle.std.proofs.Common.{Some, ap, sym, ◌∙◌}
use Rattle.capture_runner.proofs.Outcomes.{completes_by, lacks_at_first, outcome_by}
use Rattle.run_status.proofs.Ends.{refuses}
use Rattle.capture_runner.proofs.runner.run.Goals as goal

pub returns-in-Ok-None-clause-outcome : goal.returns-in-Ok-None-clause-outcome
returns-in-Ok-None-clause-outcome g c =
    let is = sym c.in-Ok-None.ensures.value ∙ c.in-Ok-None.field-0-is in
    let ends = c.put_last.ensures in
    outcome_by _ _ _ _ _ is (refuses _ _ _ (g.S.Source.left c.args.source.now) ends.status ends.whole (λ e. ends.front e (λ e. absurd (cc))))

pub returns-in-Err-clause-outcome : goal.returns-in-Err-clause-outcome
returns-in-Err-clause-outcome g c =
    let ends = c.end_without_memory.ensures in
    lacks_at_first _ _ _ (g.S.Source.left c.args.source.now) ends.status ends.whole ends.front _ _

pub returns-in-Ok-Some-Replay-clause-complete : goal.returns-in-Ok-Some-Replay-clause-complete
returns-in-Ok-Some-Replay-clause-complete g c = λ reads writes has.
    let is = sym c.in-Ok-Some-Replay.ensures.value ∙ c.in-Ok-Some-Replay.field-0-is ∙ ap Some c.in-Ok-Some-Replay.field-0-0-is in
    completes_by _ _ _ _ _ _ reads writes _ _ _ is c.replay.ensures.outcome c.replay.ensures.cause has

pub returns-in-Ok-Some-Check-clause-complete : goal.returns-in-Ok-Some-Check-clause-complete
returns-in-Ok-Some-Check-clause-complete g c = λ reads writes has.
    let is = sym c.in-Ok-Some-Check.ensures.value ∙ c.in-Ok-Some-Check.field-0-is ∙ ap Some c.in-Ok-Some-Check.field-0-0-is in
    completes_by _ _ _ _ _ _ reads writes _ _ _ is c.check_all.ensures.outcome c.check_all.ensures.cause has

pub returns-in-Ok-Some-Show-clause-complete : goal.returns-in-Ok-Some-Show-clause-complete
returns-in-Ok-Some-Show-clause-complete g c = λ reads writes has.
    let is = sym c.in-Ok-Some-Show.ensures.value ∙ c.in-Ok-Some-Show.field-0-is ∙ ap Some c.in-Ok-Some-Show.field-0-0-is in
    completes_by _ _ _ _ _ _ reads writes _ _ _ is c.show.ensures.outcome c.show.ensures.cause has

pub returns-in-Ok-Some-Monitor-clause-complete : goal.returns-in-Ok-Some-Monitor-clause-complete
returns-in-Ok-Some-Monitor-clause-complete g c = λ reads writes has.
    let is = sym c.in-Ok-Some-Monitor.ensures.value ∙ c.in-Ok-Some-Monitor.field-0-is ∙ ap Some c.in-Ok-Some-Monitor.field-0-0-is in
    completes_by _ _ _ _ _ _ reads writes _ _ _ is c.monitor.ensures.outcome c.monitor.ensures.cause has

pub returns-in-Ok-Some-Audit-clause-complete : goal.returns-in-Ok-Some-Audit-clause-complete
returns-in-Ok-Some-Audit-clause-complete g c = λ reads writes has.
    let is = sym c.in-Ok-Some-Audit.ensures.value ∙ c.in-Ok-Some-Audit.field-0-is ∙ ap Some c.in-Ok-Some-Audit.field-0-0-is in
    completes_by _ _ _ _ _ _ reads writes _ _ _ is c.audit.ensures.outcome c.audit.ensures.cause has

pub returns-in-Ok-Some-Follow-clause-complete : goal.returns-in-Ok-Some-Follow-clause-complete
returns-in-Ok-Some-Follow-clause-complete g c = λ reads writes has.
    let is = sym c.in-Ok-Some-Follow.ensures.value ∙ c.in-Ok-Some-Follow.field-0-is ∙ ap Some c.in-Ok-Some-Follow.field-0-0-is in
    completes_by _ _ _ _ _ _ reads writes _ _ _ is c.follow.ensures.outcome c.follow.ensures.cause has

pub returns-in-Ok-Some-Querier-clause-complete : goal.returns-in-Ok-Some-Querier-clause-complete
returns-in-Ok-Some-Querier-clause-complete g c = λ reads writes has.
    let is = sym c.in-Ok-Some-Querier.ensures.value ∙ c.in-Ok-Some-Querier.field-0-is ∙ ap Some c.in-Ok-Some-Querier.field-0-0-is in
    completes_by _ _ _ _ _ _ reads writes _ _ _ is c.querier.ensures.outcome c.querier.ensures.cause has

pub returns-in-Ok-Some-Live-clause-complete : goal.returns-in-Ok-Some-Live-clause-complete
returns-in-Ok-Some-Live-clause-complete g c = λ reads writes has.
    let is = sym c.in-Ok-Some-Live.ensures.value ∙ c.in-Ok-Some-Live.field-0-is ∙ ap Some c.in-Ok-Some-Live.field-0-0-is in
    completes_by _ _ _ _ _ _ reads writes _ _ _ is c.live.ensures.outcome c.live.ensures.cause has

pub returns-in-Ok-Some-Gen-clause-outcome : goal.returns-in-Ok-Some-Gen-clause-outcome
returns-in-Ok-Some-Gen-clause-outcome g c =
    let is = sym c.in-Ok-Some-Gen.ensures.value ∙ c.in-Ok-Some-Gen.field-0-is ∙ ap Some c.in-Ok-Some-Gen.field-0-0-is in
    outcome_by _ _ _ _ _ is (c.generate.ensures.outcome (g.S.Source.left c.args.source.now))

pub returns-in-Ok-Some-Gen-clause-complete : goal.returns-in-Ok-Some-Gen-clause-complete
returns-in-Ok-Some-Gen-clause-complete g c = λ reads writes has.
    let is = sym c.in-Ok-Some-Gen.ensures.value ∙ c.in-Ok-Some-Gen.field-0-is ∙ ap Some c.in-Ok-Some-Gen.field-0-0-is in
    completes_by (Unit {0}) _ _ _ _ _ reads writes _ _ _ is (c.generate.ensures.outcome (g.S.Source.left c.args.source.now)) (c.generate.ensures.cause (g.S.Source.faults c.args.source.now)) has

pub returns-in-Ok-Some-Demo-clause-outcome : goal.returns-in-Ok-Some-Demo-clause-outcome
returns-in-Ok-Some-Demo-clause-outcome g c =
    let is = sym c.in-Ok-Some-Demo.ensures.value ∙ c.in-Ok-Some-Demo.field-0-is ∙ ap Some c.in-Ok-Some-Demo.field-0-0-is in
    outcome_by _ _ _ _ _ is (c.demo.ensures.outcome (g.S.Source.left c.args.source.now))

pub returns-in-Ok-Some-Demo-clause-complete : goal.returns-in-Ok-Some-Demo-clause-complete
returns-in-Ok-Some-Demo-clause-complete g c = λ reads writes has.
    let is = sym c.in-Ok-Some-Demo.ensures.value ∙ c.in-Ok-Some-Demo.field-0-is ∙ ap Some c.in-Ok-Some-Demo.field-0-0-is in
    completes_by (Unit {0}) _ _ _ _ _ reads writes _ _ _ is (c.demo.ensures.outcome (g.S.Source.left c.args.source.now)) (c.demo.ensures.cause (g.S.Source.faults c.args.source.now)) has
