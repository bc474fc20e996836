-- The step of the world, by cases. Steps of a chip name its domain.
-- Source: this profile.
use Rattle.std.specs.Prelude.{ℕ, ◌+◌, ◌==◌, if◌then◌else◌, [], ◌∷◌, ◌++◌, length}
use Rattle.br_model.specs.declared.steps.Event.TheVariants as events
use Rattle.br_model.specs.declared.steps.Step.{Step}
use Rattle.br_model.specs.declared.steps.Step.TheVariants.{Rx, Cmd, Now, Serve, Hold, Post, Turn, Report, Sweep, Publish}
use Rattle.br_model.specs.Plane.ChipSteps.{turns, reports, sweeps}
use Rattle.br_model.specs.Plane.Entering.{enters}
use Rattle.br_model.specs.Plane.Serving.{serves, holds, held_with, posts_at}
use Rattle.br_model.specs.Plane.World.{World, Stepped, chip_at, done, answered, reacts}

-- a count is published once, however often it is
abbrev pub publishes : World → ℕ → World
publishes w n = record w { published = n; counts = if n == w.published then w.counts else w.counts ++ n ∷ [] }

-- what the step does in a world that has counted it
abbrev pub does : World → Step → Stepped
does w (Rx port bytes) = enters w port bytes
does w (Cmd c) = answered w w (reacts w (events.Cmd c))
does w (Now moment) = answered w w (reacts w (events.Moment moment))
does w Serve = serves w w.waiting
does w Hold = holds w w.waiting
does w (Post id point) = posts_at w (held_with w id) point
does w (Turn dom) = turns w (chip_at w dom)
does w (Report dom) = reports w (chip_at w dom)
does w (Sweep dom) = sweeps w (chip_at w dom)
does w Publish = done (publishes w (length w.history))

-- Each step is counted, a refused one too.
abbrev pub world_step : World → Step → Stepped
world_step w step = does (record w { steps = w.steps + 1 }) step
