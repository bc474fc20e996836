-- Observations with bounds, what was seen of frames, and the timings that explain it.
-- Source: this profile.
use Rattle.std.specs.Prelude.{◌≡◌, ℕ, ◌==◌, ◌≤◌, ◌<◌, nat_le, Bool, true, false, not, ◌&&◌, List, [], ◌∷◌, map, min}
use Rattle.std.specs.List.{filter, fold, list_any}
use Rattle.std.specs.Option.{option_map_or}
use Rattle.br_model.specs.declared.transcript.Line.{Line}
use Rattle.br_model.specs.Plane.Chip.{Chip}
use Rattle.br_model.specs.Plane.Runs.{pending_of}
use Rattle.br_model.specs.Plane.Sending.{Sent, sent_of, in_port_order}
use Rattle.br_model.specs.Plane.World.{World, Stepped, chip_at, first_world}
use Rattle.br_model.specs.Table.Cut.{deferred_count}
use Rattle.br_model.specs.Table.Setup.{Setup}
use Rattle.timings.specs.Timings.{Seen, Enters, plays, turned}

-- a line of an observation: what comes, or a bound, that by here the chip has applied its first updates, so many or all there are
pub data Mark : Type 0 where
  Sees : Seen → Mark
  Applied : ℕ → ℕ → Mark

-- turns, and behind them a line
abbrev pub Timing : Type 0
Timing = List (List ℕ × Mark)

abbrev pub comes_to : Stepped → Mark → Stepped
comes_to x (Sees s) = plays x s
comes_to x (Applied dom n) = x

abbrev pub goes : Stepped → List ℕ × Mark → Stepped
goes x m = comes_to (turned x m.0) m.1

unfoldable pub timing : Setup → Timing → Stepped
timing setup marks = fold goes (first_world setup, []) marks

abbrev pub observed : Timing → List Mark
observed marks = map (λ m. m.1) marks

-- how many updates there are by now
abbrev pub updates_in : World → ℕ
updates_in w = deferred_count w.setup.domains.edition w.history

abbrev pub reaches : World → ℕ → Chip → Bool
reaches w n c = nat_le (min n (updates_in w)) c.count

-- whether the bound is kept here
abbrev pub keeps : World → Mark → Bool
keeps w (Sees s) = true
keeps w (Applied dom n) = option_map_or (reaches w n) (chip_at w dom) true

-- whether an update waits for the chip
abbrev pub has_update : World → ℕ → Bool
has_update w dom = option_map_or (λ c. not (pending_of w c == 0)) (chip_at w dom) false

-- The turns ahead of each line are of updates that wait, and each bound is kept.
abbrev pub turns_stand : Stepped → List ℕ → Bool
turns_stand x [] = true
turns_stand x (dom ∷ later) = has_update x.0 dom && turns_stand (turned x (dom ∷ [])) later

abbrev pub stands_from : Stepped → Timing → Bool
stands_from x [] = true
stands_from x (m ∷ later) = turns_stand x m.0 && (keeps (turned x m.0).0 m.1 && stands_from (goes x m) later)

-- a timing of this observation
pub record IsTiming (setup : Setup) (marks : List Mark) (t : Timing) : Type 0 where
  pub observed : observed t ≡ marks
  pub stands : stands_from (first_world setup, []) t ≡ true

-- ports at which nobody looks, frames of which isn't known what became of them, and what was seen of a frame with an id: where it left,
-- and its bytes there
pub record Sights : Type 0 where
  pub blind : List ℕ
  pub ignored : List ℕ
  pub saw : List (ℕ × ℕ × List ℕ)

abbrev pub is_blind : Sights → ℕ → Bool
is_blind s port = list_any (λ q. q == port) s.blind

-- ascending by port, blind ports aside
abbrev pub watched : Sights → Sent → Sent
watched s sent = in_port_order (filter (λ x. not (is_blind s x.0)) sent)

abbrev pub seen_of_frame : Sights → ℕ → Sent
seen_of_frame s id = watched s (map (λ x. (x.1, x.2)) (filter (λ x. x.0 == id) s.saw))

abbrev pub is_ignored : Sights → ℕ → Bool
is_ignored s id = list_any (λ i. i == id) s.ignored

-- What was sent of the frame with this id is exactly what was seen of it, where that is known.
abbrev pub IsFit : Sights → ℕ → Sent → Type 0
IsFit s id sent = is_ignored s id ≡ false → watched s sent ≡ seen_of_frame s id

abbrev pub IsExplained : Sights → ℕ → List Line → Type 0
IsExplained s id told = IsFit s id (sent_of id told)

-- The timing explains the frames below this id.
abbrev pub Explains : Setup → Sights → ℕ → Timing → Type 0
Explains setup s next t = (id : ℕ) → 1 ≤ id → id < next → IsExplained s id (timing setup t).1

-- how many updates the chip of the domain has applied, and none where there is no chip
abbrev pub count_at : World → ℕ → ℕ
count_at w dom = option_map_or (λ (c : Chip). c.count) (chip_at w dom) 0

-- what is sent of a frame that enters now, as Linux plays it
abbrev pub frame_sent : World → ℕ → List ℕ → Sent
frame_sent w port bytes = sent_of w.next (plays (w, []) (Enters port bytes)).1
