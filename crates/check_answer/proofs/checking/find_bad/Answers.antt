use Rattle.std.proofs.Common.{Some, sym, ap, ◌∙◌}
use Rattle.scenario_reader.specs.Whole.{ending_or_going}
use Rattle.check_answer.proofs.CheckEnds.{reads_further, reads_on, sees_none}
use Rattle.check_answer.proofs.checking.find_bad.Goals as goal

pub returns-in-Some-Bad : goal.returns-in-Some-Bad
returns-in-Some-Bad c =
    let is = sym c.in-Some-Bad.ensures ∙ ap Some c.in-Some-Bad.field-0-is in
    (c.in-Some-Bad.line, c.in-Some-Bad.why, c.in_ok-scenario.ensures.says.last ∙ ap ending_or_going is, c.in_ok-found_bad-in-Some-Bad.ensures)

pub returns-in-Some-Ended : goal.returns-in-Some-Ended
returns-in-Some-Ended c =
    sees_none c.args.bytes.now c.args.stop
    (reads_on c.args.bytes.now _ _ c.in_ok-scenario.ensures.says.last (sym c.in-Some-Ended.ensures) c.in-Some-Ended.field-0-is)

pub returns : goal.returns
returns c = sees_none c.args.bytes.now c.args.stop (reads_further c.args.bytes.now _ c.in_ok-scenario.ensures.says.last (sym c.in-None.ensures))
