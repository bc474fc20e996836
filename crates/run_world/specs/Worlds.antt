-- What a step does in the world of a run.
use Rattle.std.specs.Prelude.{◌≡◌, List}
use Rattle.br_model.specs.declared.steps.Step.{Step}
use Rattle.br_model.specs.declared.transcript.Line.{Line}
use Rattle.br_model.specs.Plane.Steps.{world_step}
use Rattle.br_model.specs.Plane.World.{World}

-- a step was done in a world, and these are its lines
abbrev pub Tells : World → Step → World → List Line → Type 0
Tells old step new lines = (new, lines) ≡ world_step old step
