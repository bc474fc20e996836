-- What `live` writes, the scenario of the steps as they happened and then their transcript, and how it may end.
-- Source: this profile.
use Rattle.std.specs.Prelude.{◌≡◌, ℕ, true, List, [], ◌∷◌, ◌++◌, codes, IfSome}
use Rattle.std.specs.List.{flat_map, list_all}
use Rattle.br_model.specs.declared.steps.Step.{Step}
use Rattle.br_model.specs.Program.Outcomes.{Call, Read, Wrote}
use Rattle.br_model.specs.Program.Runs.{told_of}
use Rattle.br_model.specs.Text.Head.{head_text}
use Rattle.br_model.specs.Text.Roster.{Roster}
use Rattle.br_model.specs.Text.Scenario.{Scenario, Ended, scenario}
use Rattle.br_model.specs.Text.ScenarioText.{has_line, step_text}
use Rattle.br_model.specs.Program.LiveRules.{IsLiveRun}

-- a scenario of these steps, behind what was declared
unfoldable pub steps_scenario : Roster → List Step → List ℕ
steps_scenario roster steps = head_text roster ++ (flat_map (step_text roster.ports) steps ++ (codes "end" ++ 10 ∷ []))

-- The scenario and the transcript of these steps, where they happened to what this scenario declares.
abbrev pub live_text : Scenario → List Step → List ℕ
live_text sc steps = steps_scenario sc.roster steps ++ told_of (record sc { steps = steps; ending = Ended })

-- The scenario ends well, and the output is the scenario and the transcript of steps that workers may have taken.
pub record AnswersLive (call : Call) : Type 0 where
  pub input : List ℕ
  pub read : Read call input
  pub ends : (scenario input).ending ≡ Ended
  pub steps : List Step
  pub live : IsLiveRun steps (scenario input)
  -- each has a line, which names a chip that exists and numbers in range
  pub written : list_all (has_line (scenario input).roster.ports) steps ≡ true
  pub wrote : Wrote call (live_text (scenario input) steps)
  -- and so they would be with all that the source had left
  pub whole : IfSome call.left_before (λ bytes. scenario bytes ≡ scenario input)
