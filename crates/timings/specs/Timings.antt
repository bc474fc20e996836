-- Scenarios as Linux plays them, whenever the chips apply their updates, and worlds that differ in their chips alone.
-- Source: the kernel's net/bridge (each change is published at once, each frame served at once) and switchdev.rst (deferred work).
use Rattle.std.specs.Prelude.{◌≡◌, ℕ, List, [], ◌∷◌, map}
use Rattle.std.specs.List.{fold}
use Rattle.br_model.specs.declared.steps.Command.{Command}
use Rattle.br_model.specs.declared.steps.Step.{Step}
use Rattle.br_model.specs.declared.steps.Step.TheVariants.{Rx, Cmd, Now, Serve, Turn, Publish}
use Rattle.br_model.specs.Plane.Runs.{then_step}
use Rattle.br_model.specs.Plane.Steps.{world_step}
use Rattle.br_model.specs.Plane.World.{World, Waiting, Stepped, first_world}
use Rattle.br_model.specs.Table.Setup.{Setup}

-- what may be observed to come to a switch
pub data Seen : Type 0 where
  Commands : Command → Seen
  Comes : ℕ → Seen
  Enters : ℕ → List ℕ → Seen

abbrev pub step_of : Seen → Step
step_of (Commands c) = Cmd c
step_of (Comes moment) = Now moment
step_of (Enters port bytes) = Rx port bytes

-- what a serve adds where a frame waits
abbrev pub serving : List Waiting → List Step
serving [] = []
serving (f ∷ later) = Serve ∷ Publish ∷ []

-- the steps by which Linux plays it in this world: it, a publication, and where a frame waits then, a serve and a publication
abbrev pub linux_steps : World → Seen → List Step
linux_steps w s =
    step_of s ∷ Publish ∷ serving (world_step (world_step w (step_of s)).0 Publish).0.waiting

abbrev pub played : Stepped → List Step → Stepped
played x steps = fold then_step x steps

abbrev pub plays : Stepped → Seen → Stepped
plays x s = played x (linux_steps x.0 s)

-- turns of chips, by their domains, and behind them what comes
abbrev pub Moment : Type 0
Moment = List ℕ × Seen

abbrev pub turned : Stepped → List ℕ → Stepped
turned x doms = played x (map (λ dom. Turn dom) doms)

abbrev pub happens_at : Stepped → Moment → Stepped
happens_at x m = plays (turned x m.0) m.1

-- as Linux plays these, in this timing
unfoldable pub timed : Setup → List Moment → Stepped
timed setup moments = fold happens_at (first_world setup, []) moments

-- what is observed in a timing
abbrev pub seen_of : List Moment → List Seen
seen_of moments = map (λ m. m.1) moments

-- Worlds that differ in their chips, the number of steps and the counts that were published once, and in nothing else.
pub record Alike (w v : World) : Type 0 where
  pub setup : w.setup ≡ v.setup
  pub history : w.history ≡ v.history
  pub control : w.control ≡ v.control
  pub published : w.published ≡ v.published
  pub waiting : w.waiting ≡ v.waiting
  pub held : w.held ≡ v.held
  pub next : w.next ≡ v.next
