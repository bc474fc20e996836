-- What is said of a run, at its first step and later.
use Rattle.std.proofs.Common.{◌≡◌, List, [], ◌∷◌, ◌++◌, sym, ◌∙◌, ap}
use Rattle.br_model.specs.declared.steps.Step.{Step}
use Rattle.br_model.specs.Plane.World.{World, Stepped, first_world}
use Rattle.br_model.specs.Program.Runs.{setup_of}
use Rattle.br_model.specs.Table.Setup.{Setup}
use Rattle.br_model.specs.Text.Scenario.{Scenario}
use Rattle.br_model.proofs.Plane.Running.{run_none}
use Rattle.run_world.specs.declared.voice.Voice.{Voice}
use Rattle.scenario_runner.specs.Session.{IsSaid}
use Rattle.run_world.specs.Voices.{BeginsBy, Says, SaysBy}
use Rattle.run_world.proofs.Saying.{says_on}

-- by the first step
pub says_first : (setup : Setup) (v u x : Voice) (w : World) (step : Step) (s : Scenario) → w ≡ first_world setup → setup ≡ setup_of s.roster → s.steps ≡ [] → IsSaid s v
    → BeginsBy v setup u → SaysBy u w step x → Says x (setup_of s.roster) (s.steps ++ step ∷ [])
says_first setup v u x w step s world same none said begins says =
    says_on x setup (setup_of s.roster) ([] ++ step ∷ []) (s.steps ++ step ∷ []) (sym same) (ap (λ (l : List Step). l ++ step ∷ []) none)
    (says setup [] (world ∙ sym (ap (λ (y : Stepped). y.0) (run_none setup))) (begins (says_on v (setup_of s.roster) setup s.steps [] same (sym none) said)))
