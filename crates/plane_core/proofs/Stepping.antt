-- A plane that has made a step of its world is a plane again.
use Rattle.std.proofs.Common.{◌≡◌, List, subst}
use Rattle.br_model.specs.declared.transcript.Line.{Line}
use Rattle.br_model.specs.Theorems.Invariants.{IsWorld}
use Rattle.br_model.specs.declared.steps.Step.{Step}
use Rattle.br_model.specs.Plane.Steps.{world_step}
use Rattle.br_model.specs.Plane.World.{World, Stepped}
use Rattle.br_model.proofs.Plane.Kept.{step-world}

pub stepped : (w v : World) (step : Step) (lines : List Line) → world_step w step ≡ (v, lines) → IsWorld w → IsWorld v
stepped w v step lines is stands = subst (λ (x : Stepped). IsWorld x.0) is (step-world w step stands)
