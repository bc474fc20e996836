use Rattle.br_model.specs.Text.Scenario.{opened}
use Rattle.scenario_reader.proofs.Passing.{begins, left_within, says_whole}
use Rattle.scenario_reader.proofs.whole.read_scenario.Goals as goal

pub overflow_sub-result : goal.overflow_sub-result
overflow_sub-result c =
    let check = c.args.check in
    left_within check c.args.bytes.now _ _ _ c.in_ok-end.end (c.in_ok-end.ensures check (opened check) (begins check _ _ c.in_ok-make.ensures c.new.ensures.items))

pub returns : goal.returns
returns c =
    let check = c.args.check in
    record { says = says_whole check c.args.bytes.now _ _ c.in_ok-end.end (c.in_ok-end.ensures check (opened check) (begins check _ _ c.in_ok-make.ensures c.new.ensures.items)) }
