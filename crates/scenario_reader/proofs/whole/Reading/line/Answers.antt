use Rattle.std.proofs.Common.{Some, ap, ◌∙◌, arith}
use Rattle.std.proofs.lemmas.Result.{IfOk-weaker}
use Rattle.scenario_reader.specs.declared.reader.Last.{Last}
use Rattle.scenario_reader.specs.Passing.{left_by}
use Rattle.scenario_reader.proofs.Passing.{ends_line, goes_by_step, goes_quietly, section_short, to_section, too_long}
use Rattle.scenario_reader.proofs.whole.Reading.line.Goals as goal

pub returns-then-line-gt-LONGEST_LINE-clause-goes : goal.returns-then-line-gt-LONGEST_LINE-clause-goes
returns-then-line-gt-LONGEST_LINE-clause-goes c = λ check s h.
    let end = c.by.ensures in
    let is = c.bad-last.ensures in
    too_long check s _ _ _ _ h c.requires.feedless c.by.result (omega (arith, c.if-line-gt-LONGEST_LINE.true)) (end.last ∙ ap Some is) (end.close ∙ is) (end.left ∙ ap (λ (l : Last). left_by l 0) is)

pub section-requires : goal.section-requires
section-requires c = record { most = section_short _ _ _ c.in-Section.length _ c.in_ok-take.ensures.takes c.in-Section.is }

pub returns-in-Line-clause-goes : goal.returns-in-Line-clause-goes
returns-in-Line-clause-goes c = λ check s h. goes_quietly check s _ _ _ _ h c.requires.feedless _ _ c.in_ok-take.ensures.takes c.in-Line.is

pub returns-in_ok-push-in-Step-clause-goes : goal.returns-in_ok-push-in-Step-clause-goes
returns-in_ok-push-in-Step-clause-goes c = λ check s h.
    goes_by_step check s _ _ _ _ h c.requires.feedless _ _ c.in_ok-take.ensures.takes c.in-Step.step _ c.in-Step.is c.in_ok-push-in-Step.ensures.items

pub returns-in-Section-clause-goes : goal.returns-in-Section-clause-goes
returns-in-Section-clause-goes c =
    IfOk-weaker c.section.result _ _
    (λ went goes check s h. goes check s c.args.line.bytes.now
    (to_section check s _ c.args.line.behind.now _ _ h c.requires.feedless _ _ c.in_ok-take.ensures.takes c.in-Section.length c.in-Section.is))
    c.section.ensures.goes

pub returns-in-End-clause-goes : goal.returns-in-End-clause-goes
returns-in-End-clause-goes c = λ check s h.
    let end = c.by-in-End.ensures in
    ends_line check s _ _ _ _ h c.requires.feedless _ _ c.in_ok-take.ensures.takes c.in-End.last c.by-in-End.result c.in-End.is end.last end.close end.left
