-- The steps of generated frames, one at a time.
-- Source: this profile.
use Rattle.std.specs.Prelude.{◌≡◌, ℕ, ◌*◌, List, [], ◌∷◌, ◌++◌, MatchOption}
use Rattle.std.specs.declared.option.Option.{Option}
use Rattle.br_model.specs.declared.steps.Step.{Step}
use Rattle.br_model.specs.declared.steps.Step.TheVariants.{Rx, Now, Serve, Turn, Report, Publish}
use Rattle.br_model.specs.Program.Generator.{each}
use Rattle.br_model.specs.Table.Domains.{first_chip_domain}
use Rattle.scenario_generator.specs.declared.frame_steps.Following.{Following}
use Rattle.scenario_generator.specs.declared.frame_steps.Made.{Made}
use Rattle.scenario_generator.specs.declared.frame_steps.Made.TheVariants.{Enters, Follows}
use Rattle.scenario_generator.specs.declared.frame_steps.Stage.{Stage}
use Rattle.scenario_generator.specs.declared.frame_steps.Stage.TheVariants as next

-- the steps that come with frame i, from a stage on
abbrev pub following : Stage → ℕ → List Step
following next.Serve i = Serve ∷ (each 3 i (Report first_chip_domain) ++ (each 5 i (Turn first_chip_domain) ++ (each 7 i Publish ++ each 64 i (Now (1000 * i)))))
following next.Report i = each 3 i (Report first_chip_domain) ++ (each 5 i (Turn first_chip_domain) ++ (each 7 i Publish ++ each 64 i (Now (1000 * i))))
following next.Turn i = each 5 i (Turn first_chip_domain) ++ (each 7 i Publish ++ each 64 i (Now (1000 * i)))
following next.Publish i = each 7 i Publish ++ each 64 i (Now (1000 * i))
following next.Moment i = each 64 i (Now (1000 * i))
following next.Frame i = []

abbrev pub step_of : Made → Step
step_of (Enters port bytes) = Rx port bytes
step_of (Follows step) = step

-- a step was taken from the front of these, and the others are left; where there was none, none is left
abbrev pub Gives : List Step → Following → Option Step → Type 0
Gives steps left result = MatchOption result ((steps ≡ []) × (following left.stage left.i ≡ [])) (λ step. steps ≡ step ∷ following left.stage left.i)

abbrev pub GivesMade : List Step → List Step → Option Made → Type 0
GivesMade old new result = MatchOption result ((old ≡ []) × (new ≡ [])) (λ made. old ≡ step_of made ∷ new)
