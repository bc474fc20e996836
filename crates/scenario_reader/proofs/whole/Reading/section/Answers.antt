use Rattle.std.proofs.Common.{◌∙◌, arith}
use Rattle.scenario_reader.proofs.Passing.{cut_off, ends_in_section, goes_by_section}
use Rattle.scenario_reader.proofs.whole.Reading.section.Goals as goal

pub returns-then-behind-length-clause-goes : goal.returns-then-behind-length-clause-goes
returns-then-behind-length-clause-goes c = λ check s line h.
    let end = c.within.ensures in
    cut_off check s line c.args.length _ _ h c.args.behind.now c.within.result (omega (arith, c.if-behind-length.true)) end.last (end.close ∙ c.bad_section-close.ensures) end.left

pub returns-in_ok-append-in-Steps-clause-goes : goal.returns-in_ok-append-in-Steps-clause-goes
returns-in_ok-append-in-Steps-clause-goes c = λ check s line h.
    goes_by_section check s line c.args.length _ _ h c.args.behind.now
    (omega (arith, c.if-behind-length.false)) c.in_ok-steps.field-0 c.in_ok-steps.ensures c.in-Steps.steps _ c.in-Steps.is c.in_ok-append-in-Steps.ensures.items

pub returns-in-End-clause-goes : goal.returns-in-End-clause-goes
returns-in-End-clause-goes c = λ check s line h.
    let end = c.by.ensures in
    ends_in_section check s line c.args.length _ _ h c.args.behind.now
    (omega (arith, c.if-behind-length.false)) c.in_ok-steps.field-0 c.in_ok-steps.ensures c.in-End.last c.by.result c.in-End.is end.last end.close end.left
