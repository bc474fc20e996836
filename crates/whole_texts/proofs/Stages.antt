-- A world on the heap alone does what a stage does.
use Rattle.std.proofs.Common.{◌≡◌, Bool, true, false, List, Option, Some, Result, Ok, Err, OnOk, refl, sym, ap}
use Rattle.br_model.specs.declared.steps.Step.{Step}
use Rattle.br_model.specs.declared.transcript.Line.{Line}
use Rattle.br_model.specs.Plane.World.{World, Stepped, first_world}
use Rattle.br_model.specs.Table.Setup.{Setup}
use Rattle.check_world.specs.Worlds.{Tells}
use Rattle.plane_parts.specs.Added.{Added}
use Rattle.scenario_play.specs.Stages.{Begins, StepsTo}
use Rattle.whole_texts.specs.Stages.{lone}

-- it does all that a line can give
pub fits_lone : (check : Bool) → (true ≡ false → check ≡ false) × Unit {0}
fits_lone check = (λ no. absurd (cc no), tt)

pub begins_lone : (o : Option World) (w : World) (setup : Setup) → w ≡ first_world setup → Begins (lone o) setup (lone (Some w))
begins_lone o w setup is = record { world = ap Some is; keeps = record { checks = refl; says = refl }; sound = tt; also = tt }

pub told_lone : {A E : Type 0} (x : Result A E) (w v : World) (step : Step) (before after : List Line) → OnOk x (Added (Tells w step v) before after)
    → OnOk x (Added (StepsTo (lone (Some w)) step (lone (Some v))) before after)
told_lone (Ok a) w v step before after h = record {
  lines = h.lines;
  so = record {
    world = (ap (λ (x : Stepped). Some x.0) (sym h.so), ap (λ (x : Stepped). x.1) (sym h.so));
    keeps = record { checks = refl; says = refl };
    sound = tt;
    also = λ setup steps at old. tt;
  };
  added = h.added;
}
told_lone (Err e) w v step before after h = h
