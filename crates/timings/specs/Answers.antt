-- The parts of what `explain` answers: the steps of the timing that it found, how much the chips had applied, and what a frame would
-- have sent that no timing explains.
-- Source: this profile.
use Rattle.std.specs.Prelude.{ℕ, ◌-◌, if◌then◌else◌, List, [], ◌∷◌, ◌++◌, map}
use Rattle.std.specs.declared.option.Option.{Option}
use Rattle.std.specs.declared.option.Option.TheVariants.{None, Some}
use Rattle.br_model.specs.declared.steps.Step.{Step}
use Rattle.br_model.specs.declared.steps.Step.TheVariants.{Turn}
use Rattle.br_model.specs.Plane.Chip.{Chip}
use Rattle.br_model.specs.Plane.Entering.{chip_of}
use Rattle.br_model.specs.Plane.Runs.{pending_of}
use Rattle.br_model.specs.Plane.Sending.{Sent}
use Rattle.br_model.specs.Plane.World.{World, Stepped}
use Rattle.br_model.specs.Table.Domains.{domain_of}
use Rattle.timings.specs.Explained.{Mark, Sees, Applied, Sights, Timing, frame_sent, goes, is_ignored, updates_in, watched}
use Rattle.timings.specs.Greedy.{repeated, same_sent}
use Rattle.timings.specs.Rows.{where_new}
use Rattle.timings.specs.Timings.{Commands, Comes, Enters, linux_steps, turned}

-- the steps of a line, as Linux plays it in this world
abbrev pub mark_steps : World → Mark → List Step
mark_steps w (Sees s) = linux_steps w s
mark_steps w (Applied dom n) = []

-- the steps of a timing
abbrev pub timing_steps : Stepped → Timing → List Step
timing_steps x [] = []
timing_steps x (m ∷ later) = map (λ dom. Turn dom) m.0 ++ (mark_steps (turned x m.0).0 m.1 ++ timing_steps (goes x m) later)

-- How many updates the chip of the domain had applied, of how many, when the frame with this id came to it.
pub record By : Type 0 where
  pub id : ℕ
  pub dom : ℕ
  pub count : ℕ
  pub updates : ℕ

abbrev pub by_chip : Sights → World → Option Chip → List By
by_chip s w None = []
by_chip s w (Some c) =
    if is_ignored s w.next then [] else record { id = w.next; dom = c.dom; count = c.count; updates = updates_in w } ∷ []

abbrev pub by_mark : Sights → World → Mark → List By
by_mark s w (Sees (Commands c)) = []
by_mark s w (Sees (Comes moment)) = []
by_mark s w (Sees (Enters port bytes)) = by_chip s w (chip_of w (domain_of w.setup.domains port))
by_mark s w (Applied dom n) = []

abbrev pub by_timing : Sights → Stepped → Timing → List By
by_timing s x [] = []
by_timing s x (m ∷ later) = by_mark s (turned x m.0).0 m.1 ++ by_timing s (goes x m) later

-- what would be sent, where anybody looks, of a frame that enters once the chip has so many turns more
abbrev pub would_after : Sights → World → ℕ → ℕ → List ℕ → ℕ → Sent
would_after s w dom port bytes k = watched s (frame_sent (turned (w, []) (repeated dom k)).0 port bytes)

-- by how many updates the chip of its port has applied
abbrev pub would : Sights → World → ℕ → List ℕ → Option Chip → List (ℕ × Sent)
would s w port bytes None = (0, watched s (frame_sent w port bytes)) ∷ []
would s w port bytes (Some c) =
    where_new same_sent (λ k. would_after s w c.dom port bytes (k - c.count)) c.count (pending_of w c)
