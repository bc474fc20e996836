use Rattle.std.specs.Prelude.{codes}
use Rattle.std.specs.List.{flat_map}
use Rattle.std.specs.String.{string_bytes}
use Rattle.lemmas.proofs.Lists.{three_parts}
use Rattle.br_model.specs.Program.LiveText.{steps_scenario}
use Rattle.br_model.specs.Text.Head.{head_text}
use Rattle.br_model.specs.Text.ScenarioText.{step_text}
use Rattle.scenario_text.proofs.head.append_scenario.Goals as goal

pub returns : goal.returns
unfolding steps_scenario
returns c =
    three_parts (string_bytes c.args.to.now) _ _ _ (head_text c.args.roster.now) (flat_map (step_text c.args.roster.now.ports) c.args.steps.now) (codes "end\n")
    (rw c.own.ensures at c.in_ok-append_head.ensures) c.in_ok-append_steps.ensures c.in_ok-push_str.ensures.bytes
