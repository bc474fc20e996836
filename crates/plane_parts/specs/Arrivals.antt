-- Frames that enter, and go on to software or not.
use Rattle.std.specs.Prelude.{◌≡◌, ℕ, ◌+◌, ◌<◌, nat_lt, if◌then◌else◌, List, [], ◌∷◌, ◌++◌, length}
use Rattle.br_model.specs.declared.transcript.Line.{Line}
use Rattle.br_model.specs.declared.transcript.Line.TheVariants.{Overrun}
use Rattle.br_model.specs.Table.Limits.{most_waiting}
use Rattle.br_model.specs.Plane.World.{Waiting}
use Rattle.plane_parts.specs.declared.frames.Arrival.{Arrival}
use Rattle.plane_parts.specs.declared.frames.Arrival.TheVariants.{PassesBy, Waits, Overruns}
use Rattle.plane_parts.specs.Queued.{Queued}

-- that of a frame that goes on
abbrev pub arrival : Queued → Waiting → Arrival
arrival q f = if nat_lt (length q.waiting + length q.held) most_waiting then Waits f else Overruns

abbrev pub arrival_lines : ℕ → Arrival → List Line
arrival_lines id PassesBy = []
arrival_lines id (Waits f) = []
arrival_lines id Overruns = Overrun id ∷ []

-- the frames after it, which has taken the next id
abbrev pub settled : Queued → Arrival → Queued
settled q PassesBy = record q { next = q.next + 1 }
settled q (Waits f) = record q { waiting = q.waiting ++ f ∷ []; next = q.next + 1 }
settled q Overruns = record q { next = q.next + 1 }

-- A frame that is to wait has the next id, and there is room for it.
abbrev pub IsArrival : Queued → Arrival → Type 0
IsArrival q PassesBy = Unit {0}
IsArrival q (Waits f) = (f.id ≡ q.next) × (length q.waiting + length q.held < most_waiting)
IsArrival q Overruns = Unit {0}
