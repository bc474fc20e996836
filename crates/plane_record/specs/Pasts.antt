-- What contracts see of a plane with the steps that led to it.
use Rattle.std.specs.Prelude.{ℕ, ◌==◌, if◌then◌else◌, List, [], ◌∷◌, ◌++◌, length}
use Rattle.std.specs.declared.option.Option.{Option}
use Rattle.std.specs.declared.option.Option.TheVariants.{None, Some}
use Rattle.br_model.specs.declared.steps.Event.{Event}
use Rattle.br_model.specs.declared.steps.Event.TheVariants as events
use Rattle.br_model.specs.declared.steps.Step.{Step}
use Rattle.br_model.specs.declared.steps.Step.TheVariants.{Cmd, Now, Hold, Post, Publish}
use Rattle.br_model.specs.declared.transcript.Line.{Line}
use Rattle.br_model.specs.Plane.Runs.{run}
use Rattle.br_model.specs.Plane.Steps.{world_step}
use Rattle.br_model.specs.Plane.World.{World, Waiting, Holding}
use Rattle.br_model.specs.Table.Setup.{Setup}
use Rattle.plane_core.specs.Planes.{PlaneState}
use Rattle.table_publish.specs.Object.{Whose}

pub record Past : Type 0 where
  pub board : Whose
  pub setup : Setup
  pub steps : List Step

-- the world after these steps, and all their lines
abbrev pub world_of : Past → World
world_of p = (run p.setup p.steps).0

abbrev pub lines_of : Past → List Line
lines_of p = (run p.setup p.steps).1

-- the plane of that world, over the board
abbrev pub state_of : Past → PlaneState
state_of p = record { world = world_of p; board = p.board }

-- the past with one more step
abbrev pub after : Past → Step → Past
after p step = record p { steps = p.steps ++ step ∷ [] }

-- the lines of the step
abbrev pub said_by : Past → Step → List Line
said_by p step = (world_step (world_of p) step).1

-- the step that an event is; none but commands and moments are named by a step
abbrev pub event_step : Event → Step
event_step (events.Cmd c) = Cmd c
event_step (events.Moment now) = Now now
event_step (events.Sight port bytes head) = Publish
event_step (events.Told vid mac port) = Publish
event_step (events.Forget stations) = Publish

-- a post as it is recorded: without its point where no frame is held under the id
abbrev pub post_step : Option Holding → ℕ → ℕ → Step
post_step None id point = Post id None
post_step (Some x) id point = Post id (Some point)

-- the oldest frame that waits is held; where none waits there is no step
abbrev pub held_after : Past → List Waiting → Past
held_after p [] = p
held_after p (f ∷ later) = after p Hold

-- how many changes were accepted
abbrev pub changes_of : Past → ℕ
changes_of p = length (world_of p).history

-- what has another number of changes than this one is published
abbrev pub published_after : ℕ → Past → Past
published_after n p = if changes_of p == n then p else after p Publish

-- The step is taken, and what it accepted is published.
abbrev pub acted : Past → Step → Past
acted p step = published_after (changes_of p) (after p step)
