-- A step of a plane is one of its world.
use Rattle.std.proofs.Common.{List, Result, Ok, Err, OnOk, sym}
use Rattle.br_model.specs.declared.steps.Step.{Step}
use Rattle.br_model.specs.declared.transcript.Line.{Line}
use Rattle.plane_parts.specs.Added.{Added}
use Rattle.plane_core.specs.Planes.{PlaneState, Steps}
use Rattle.run_world.specs.Worlds.{Tells}

pub world_told : (old new : PlaneState) (step : Step) (before after : List Line) → Added (Steps old new step) before after → Added (Tells old.world step new.world) before after
world_told old new step before after a = record { lines = a.lines; so = sym a.so.world; added = a.added }

pub world_tells : {A E : Type 0} (r : Result A E) (old new : PlaneState) (step : Step) (before after : List Line) → OnOk r (Added (Steps old new step) before after)
    → OnOk r (Added (Tells old.world step new.world) before after)
world_tells (Ok x) old new step before after a = world_told old new step before after a
world_tells (Err e) old new step before after a = a
