use Rattle.std.proofs.Common.{sym, ap, ◌∙◌}
use Rattle.std.proofs.lemmas.Result.{IfOk-weaker}
use Rattle.scenario_reader.specs.Reading.{ending_of}
use Rattle.check_answer.proofs.CheckEnds.{found_answer, found_bad_line}
use Rattle.check_answer.proofs.checking.find.Goals as goal

pub returns-in-Bad : goal.returns-in-Bad
returns-in-Bad c =
    IfOk-weaker c.found_bad.result _ _
    (λ found f bytes says behind. found_bad_line bytes found c.in-Bad.line c.in-Bad.why (says.close ∙ ap ending_of (sym c.in-Bad.ensures)) f) c.found_bad.ensures

pub returns-in_ok-lines_of_answer-in-Ended : goal.returns-in_ok-lines_of_answer-in-Ended
returns-in_ok-lines_of_answer-in-Ended c = λ bytes says behind.
    let ended = sym c.in-Ended.ensures in
    found_answer bytes c.args.transcript.now _ _ (says.close ∙ ap ending_of ended) behind
    (c.in_ok-answer-in-Ended.ensures bytes says ended) c.in_ok-lines_of_answer-in-Ended.ensures c.status_of_answer.ensures
