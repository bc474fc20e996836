-- What is asked of steps beside what they do, a row a step.
-- Source: this profile.
use Rattle.std.specs.Prelude.{ℕ, Bool, true, false, List}
use Rattle.std.specs.declared.option.Option.{Option}
use Rattle.std.specs.declared.option.Option.TheVariants.{None, Some}
use Rattle.br_model.specs.declared.steps.Step.{Step}
use Rattle.br_model.specs.declared.steps.Step.TheVariants.{Rx, Cmd, Now, Serve, Hold, Post, Turn, Report, Sweep, Publish}

pub record Traits : Type 0 where
  -- the port by which a frame enters, and the frame
  pub frame : Option (ℕ × List ℕ)
  -- the moment that comes
  pub moment : Option ℕ
  -- the id under which a frame is held that is to be sent, and the point that is named for it
  pub post : Option (ℕ × Option ℕ)
  -- the domain whose chip applies a deferred change
  pub turn : Option ℕ
  -- the domain whose chip reports
  pub report : Option ℕ
  pub publishes : Bool
  -- In a run by workers: it is taken from the scenario and is no frame, and keeps its place among such steps.
  pub ordered : Bool
  -- In a run by workers: it may stand in the drain, the longest end of the steps that has none but these.
  pub drains : Bool

abbrev pub traits : Step → Traits
traits (Rx port bytes) = record { frame = Some (port, bytes); moment = None; post = None; turn = None; report = None; publishes = false; ordered = false; drains = false }
traits (Cmd command) = record { frame = None; moment = None; post = None; turn = None; report = None; publishes = false; ordered = true; drains = false }
traits (Now moment) = record { frame = None; moment = Some moment; post = None; turn = None; report = None; publishes = false; ordered = true; drains = false }
traits Serve = record { frame = None; moment = None; post = None; turn = None; report = None; publishes = false; ordered = false; drains = true }
traits Hold = record { frame = None; moment = None; post = None; turn = None; report = None; publishes = false; ordered = false; drains = false }
traits (Post id point) = record { frame = None; moment = None; post = Some (id, point); turn = None; report = None; publishes = false; ordered = false; drains = false }
traits (Turn dom) = record { frame = None; moment = None; post = None; turn = Some dom; report = None; publishes = false; ordered = false; drains = true }
traits (Report dom) = record { frame = None; moment = None; post = None; turn = None; report = Some dom; publishes = false; ordered = false; drains = true }
traits (Sweep dom) = record { frame = None; moment = None; post = None; turn = None; report = None; publishes = false; ordered = true; drains = false }
traits Publish = record { frame = None; moment = None; post = None; turn = None; report = None; publishes = true; ordered = false; drains = true }
