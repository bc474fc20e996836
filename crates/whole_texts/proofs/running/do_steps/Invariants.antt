use Rattle.std.proofs.Common.{◌≡◌, ◌++◌, true}
use Rattle.std.specs.List.{list_all}
use Rattle.br_model.specs.Text.LineForms.{comes_by_line}
use Rattle.br_model.specs.Text.Roster.{chips_of}
use Rattle.whole_texts.specs.Runs.{HasDone}
use Rattle.whole_texts.specs.Stages.{lone}
use Rattle.whole_texts.proofs.running.do_steps.Given as goal

abbrev pub invariant-loop-step : goal.invariant-loop-step
invariant-loop-step l = record {
  parts : l.fn.steps.items ≡ l.yielded ++ l.step-iterator.rest.items;
  by_line : list_all (comes_by_line l.fn.roster.check (chips_of l.fn.roster.ports)) l.step-iterator.rest.items ≡ true;
  done : HasDone l.fn.roster l.yielded (lone l.stage.world);
}
