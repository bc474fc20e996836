-- What a stage does.
use Rattle.std.specs.Prelude.{◌≡◌, ℕ, Bool, true, List, [], ◌∷◌, ◌++◌}
use Rattle.std.specs.declared.option.Option.{Option}
use Rattle.std.specs.declared.option.Option.TheVariants.{None, Some}
use Rattle.br_model.specs.declared.steps.Step.{Step}
use Rattle.br_model.specs.declared.transcript.Line.{Line}
use Rattle.br_model.specs.declared.transcript.Line.TheVariants.{End}
use Rattle.br_model.specs.Plane.Runs.{end_line, run}
use Rattle.br_model.specs.Plane.Steps.{world_step}
use Rattle.br_model.specs.Plane.World.{World, first_world}
use Rattle.br_model.specs.Table.Domains.{chip_domains}
use Rattle.br_model.specs.Table.Setup.{Setup}
use Rattle.br_model.specs.Text.LineForms.{comes_by_line}
use Rattle.br_model.specs.Theorems.Invariants.{IsWorld}

-- What holds of a stage: its world, where one was made; whether it also does a `post` that names its point; whether whoever speaks of the run
-- can go on; what holds of what was said, after a run; and what is to be said of a run.
pub record Standing : Type 1 where
  pub world : Option World
  pub checks : Bool
  pub sound : Type 0
  pub also : Setup → List Step → Type 0
  pub says : Setup → List Step → List ℕ

-- there is a world, and a line can give this step
abbrev pub CanIn : Bool → Option World → Step → Type 0
CanIn checks None step = ⊥
CanIn checks (Some w) step = IsWorld w × (comes_by_line checks (chip_domains w.setup.domains) step ≡ true)

pub record CanStep (x : Standing) (step : Step) : Type 0 where
  pub sound : x.sound
  pub can : CanIn x.checks x.world step

-- what stays
pub record Keeps (old new : Standing) : Type 0 where
  pub checks : new.checks ≡ old.checks
  pub says : new.says ≡ old.says

-- the world of this setup was made
pub record Begins (old : Standing) (setup : Setup) (new : Standing) : Type 0 where
  pub world : new.world ≡ Some (first_world setup)
  pub keeps : Keeps old new
  pub sound : new.sound
  pub also : new.also setup []

-- the step was done in the world, and has these lines
abbrev pub InWorld : Option World → Step → Option World → List Line → Type 0
InWorld None step new lines = ⊥
InWorld (Some w) step new lines = (new ≡ Some (world_step w step).0) × (lines ≡ (world_step w step).1)

-- and whatever steps were before it, what holds of them holds with it
pub record StepsTo (old : Standing) (step : Step) (new : Standing) (lines : List Line) : Type 0 where
  pub world : InWorld old.world step new.world lines
  pub keeps : Keeps old new
  pub sound : new.sound
  pub also : (setup : Setup) (steps : List Step) → old.world ≡ Some (run setup steps).0 → old.also setup steps → new.also setup (steps ++ step ∷ [])

abbrev pub end_line_of : Option World → Line
end_line_of None = End 0 0 0 0
end_line_of (Some w) = end_line w
