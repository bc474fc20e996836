use Rattle.std.proofs.Common.{◌≡◌, ◌++◌, true}
use Rattle.std.specs.List.{list_all}
use Rattle.br_model.specs.Table.Domains.{chip_domains}
use Rattle.br_model.specs.Text.LineForms.{comes_by_line}
use Rattle.transcript_check.specs.Checking.{ComparesSteps}
use Rattle.transcript_check.proofs.checking.compare_steps.Given as goal

abbrev pub invariant-loop-step : goal.invariant-loop-step
invariant-loop-step l = record {
  parts : l.fn.steps.items ≡ l.yielded ++ l.step-iterator.rest.items;
  by_line : list_all (comes_by_line true (chip_domains l.fn.beside.world.value.setup.domains)) l.step-iterator.rest.items ≡ true;
  compares : ComparesSteps l.fn.beside l.yielded l.beside;
}
