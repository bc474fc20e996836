-- A run by workers in the words of its rules, for any first part. `is_live_run` looks at the shortest one alone; a law says that it is as
-- good as any.
-- Source: this profile.
use Rattle.std.specs.Prelude.{◌≡◌, ℕ, true, false, List, [], ◌∷◌, ◌++◌}
use Rattle.std.specs.List.{filter, list_all}
use Rattle.br_model.specs.declared.steps.Step.{Step}
use Rattle.br_model.specs.declared.steps.Step.TheVariants.{Publish}
use Rattle.br_model.specs.Plane.Runs.{run}
use Rattle.br_model.specs.Program.LiveRun.{accepts_changes, begins_with_publish, ends_with_publish, frames_at, from_frame, is_drained, is_ordered, may_drain, until_frame}
use Rattle.br_model.specs.Program.Runs.{setup_of}
use Rattle.br_model.specs.Text.Scenario.{Scenario}

-- the first list becomes the second when some publications are taken out of it
pub data Becomes : List Step → List Step → Type 0 where
  Empty : Becomes [] []
  Kept : {xs ys : List Step} (s : Step) → Becomes xs ys → Becomes (s ∷ xs) (s ∷ ys)
  Taken : {xs ys : List Step} → Becomes xs ys → Becomes (Publish ∷ xs) ys

pub record IsLiveRun (steps : List Step) (sc : Scenario) : Type 0 where
  pub first : List Step
  pub later : List Step
  pub parts : steps ≡ first ++ later
  pub opening : Becomes first (until_frame sc.steps)
  -- the frames of each port enter in their order, each once, and so do the scenario's commands, moments and sweeps
  pub frames : (port : ℕ) → frames_at port later ≡ frames_at port (from_frame sc.steps)
  pub ordered : filter is_ordered later ≡ filter is_ordered (from_frame sc.steps)
  -- a step that accepts changes, and doesn't stand in the drain, is directly followed by a publication
  pub published : (before : List Step) (s : Step) (after : List Step) → later ≡ before ++ s ∷ after → list_all may_drain (s ∷ after) ≡ false
      → accepts_changes (run (setup_of sc.roster) (first ++ before)).0 s ≡ true → begins_with_publish after ≡ true
  pub last : ends_with_publish steps ≡ true
  pub drained : is_drained (setup_of sc.roster) steps (run (setup_of sc.roster) steps).0 ≡ true
