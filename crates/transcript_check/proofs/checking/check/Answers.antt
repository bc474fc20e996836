use Rattle.std.proofs.Common.{sym, ap, ◌∙◌}
use Rattle.scenario_reader.specs.Reading.{ending_of}
use Rattle.transcript_check.proofs.checking.check.Goals as goal

pub compare-requires-clause-says : goal.compare-requires-clause-says
compare-requires-clause-says c = (c.args.scenario.now, c.in_ok-whole.ensures.says)

pub returns-in-Bad : goal.returns-in-Bad
returns-in-Bad c = c.in_ok-whole.ensures.says.close ∙ ap ending_of (sym c.in-Bad.ensures)

pub returns-in_ok-compare-in-Ended : goal.returns-in_ok-compare-in-Ended
returns-in_ok-compare-in-Ended c =
    let ended = sym c.in-Ended.ensures in
    (c.in_ok-whole.ensures.says.close ∙ ap ending_of ended, c.in_ok-compare-in-Ended.ensures c.args.scenario.now c.in_ok-whole.ensures.says ended)
