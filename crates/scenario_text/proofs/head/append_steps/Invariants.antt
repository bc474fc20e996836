use Rattle.std.proofs.Common.{◌≡◌, ◌++◌, true, drop}
use Rattle.std.specs.List.{flat_map, list_all}
use Rattle.std.specs.String.{string_bytes}
use Rattle.br_model.specs.Text.ScenarioText.{names_declared, step_text}
use Rattle.scenario_text.proofs.head.append_steps.Given as goal

abbrev pub invariant-loop-step : goal.invariant-loop-step
invariant-loop-step l =
    (string_bytes l.to ++ flat_map (step_text l.r.ports) (drop l.step-index l.steps) ≡ string_bytes l.fn.to ++ flat_map (step_text l.r.ports) l.steps)
    × (list_all (names_declared l.r.ports) (drop l.step-index l.steps) ≡ true)
