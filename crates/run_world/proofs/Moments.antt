-- The last moment, step by step.
use Rattle.std.proofs.Common.{◌≡◌, ℕ, true, false, cond, List, Option, None, Some}
use Rattle.std.specs.List.{list_any}
use Rattle.br_model.specs.declared.steps.Step.{Step}
use Rattle.br_model.specs.declared.transcript.Line.{Line}
use Rattle.br_model.specs.Plane.LineTraits.{is_done}
use Rattle.br_model.specs.Plane.Steps.{world_step}
use Rattle.br_model.specs.Plane.Traits.{traits}
use Rattle.br_model.specs.Plane.World.{World}
use Rattle.run_world.specs.Hearing.{coming_by, moment_after}
use Rattle.mcast_querier.proofs.Moments.{PassesBy, step-passes}

-- the moment behind a step that names this one or none, by whether it was done
moment-behind : (o : Option ℕ) (told : List Line) (before after : ℕ) → PassesBy o (list_any is_done told) before after → after ≡ moment_after (coming_by o told) before
moment-behind None told before after p = p
moment-behind (Some moment) told before after p =
    (elim (list_any is_done told) as (λ b. PassesBy (Some moment) b before after → after ≡ moment_after (cond b (Some moment) None) before) [ true ↦ λ q. q.1 | false ↦ λ q. q ]) p

pub step-moment : (w : World) (step : Step) → (world_step w step).0.control.now ≡ moment_after (coming_by (traits step).moment (world_step w step).1) w.control.now
step-moment w step = moment-behind (traits step).moment (world_step w step).1 w.control.now (world_step w step).0.control.now (step-passes w step)
