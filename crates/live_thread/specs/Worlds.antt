-- What is left to do in a world, and what is published of steps there.
-- Source: this profile.
use Rattle.std.specs.Prelude.{◌≡◌, true, List, [], ◌∷◌}
use Rattle.br_model.specs.declared.steps.Step.{Step}
use Rattle.br_model.specs.Plane.Steps.{world_step}
use Rattle.br_model.specs.Plane.World.{World}
use Rattle.br_model.specs.Program.LiveRun.{accepts_changes, begins_with_publish}

-- no frame waits or is held
pub record IsIdle (w : World) : Type 0 where
  pub waiting : w.waiting ≡ []
  pub held : w.held ≡ []

-- From this world on, each of the steps that accepts changes is directly followed by a publication.
abbrev pub ArePublished : World → List Step → Type 0
ArePublished w [] = Unit {0}
ArePublished w (s ∷ steps) = (accepts_changes w s ≡ true → begins_with_publish steps ≡ true) × ArePublished (world_step w s).0 steps
