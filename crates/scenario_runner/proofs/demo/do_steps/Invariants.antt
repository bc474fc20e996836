use Rattle.std.proofs.Common.{◌≡◌, ◌++◌, true, false}
use Rattle.std.specs.List.{list_all}
use Rattle.scenario_runner.specs.Counting.{RunsOn}
use Rattle.br_model.specs.Table.Domains.{chip_domains}
use Rattle.br_model.specs.Text.LineForms.{comes_by_line}
use Rattle.scenario_runner.proofs.demo.do_steps.Given as goal

abbrev pub invariant-loop-step : goal.invariant-loop-step
invariant-loop-step g l = record {
  parts : l.fn.steps.items ≡ l.yielded ++ l.step-iterator.rest.items;
  by_line : list_all (comes_by_line false (chip_domains l.fn.world.setup.domains)) l.step-iterator.rest.items ≡ true;
  setup : l.world.setup ≡ l.fn.world.setup;
  runs : RunsOn l.fn.world l.fn.tally l.yielded l.world l.tally;
}
