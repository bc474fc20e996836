use Rattle.std.proofs.Common.{Some, ap, ◌∙◌, arith}
use Rattle.scenario_reader.specs.declared.reader.Last.{Last}
use Rattle.scenario_reader.specs.Passing.{left_by}
use Rattle.scenario_reader.proofs.Passing.{closed, rest_too_long}
use Rattle.scenario_reader.proofs.whole.Reading.close.Goals as goal

pub returns-then-rest-gt-LONGEST_LINE : goal.returns-then-rest-gt-LONGEST_LINE
returns-then-rest-gt-LONGEST_LINE c = λ check s h.
    let told = c.by.ensures in
    rest_too_long check s _ _ _ h c.requires.feedless c.by.result (omega (arith, c.if-rest-gt-LONGEST_LINE.true)) (told.last ∙ ap Some c.bad.ensures) (told.close ∙ c.bad.ensures)
    (told.left ∙ ap (λ (l : Last). left_by l 0) c.bad.ensures)

pub returns : goal.returns
returns c = λ check s h.
    let end = c.within.ensures in
    closed check s _ _ _ h c.requires.feedless c.within.result (omega (arith, c.if-rest-gt-LONGEST_LINE.false)) c.close.result c.close.ensures end.last end.close end.left
