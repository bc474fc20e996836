-- The lines of a frame in a transcript: which they are, and what they say.
-- Source: the kernel's switchdev.rst (frames that a chip hands to the processor) and nbp_switchdev_allowed_egress; ids, limits, holds
-- and points are this profile's.
use Rattle.std.specs.Prelude.{◌≡◌, ℕ, ◌+◌, ◌≤◌, ◌==◌, nat_lt, Bool, true, false, List, [], ◌∷◌, ◌++◌, map, length}
use Rattle.std.specs.List.{filter}
use Rattle.std.specs.Option.{option_map_or}
use Rattle.std.specs.Ordering.{nat_cmp}
use Rattle.std.specs.declared.option.Option.{Option}
use Rattle.std.specs.declared.option.Option.TheVariants.{None, Some}
use Rattle.br_model.specs.declared.frame.Class.{Class}
use Rattle.br_model.specs.declared.frame.Class.TheVariants.{Drop, Trap, Copy, Forward}
use Rattle.br_model.specs.declared.frame.Head.{Head}
use Rattle.br_model.specs.declared.steps.Step.{Step}
use Rattle.br_model.specs.declared.steps.Step.TheVariants.{Rx}
use Rattle.br_model.specs.declared.transcript.Line.{Line}
use Rattle.br_model.specs.declared.transcript.Line.TheVariants as lines
use Rattle.br_model.specs.Data.Maps.{has}
use Rattle.br_model.specs.Forward.Shares.{chip_out, mark_of, soft_out}
use Rattle.br_model.specs.Plane.Chip.{Chip}
use Rattle.br_model.specs.Plane.Entering.{class_of}
use Rattle.br_model.specs.Plane.LineTraits.{line_traits}
use Rattle.br_model.specs.Plane.Runs.{run}
use Rattle.br_model.specs.Plane.World.{World, Waiting, Stepped, sent, table_at, table_of_chip}
use Rattle.br_model.specs.Table.Limits.{most_waiting}
use Rattle.br_model.specs.Table.Setup.{Setup}

-- whether the line is of the frame with this id
abbrev pub is_line_of : ℕ → Line → Bool
is_line_of id l = option_map_or (λ i. i == id) (line_traits l).frame false

-- its lines, in their order
abbrev pub lines_of : ℕ → List Line → List Line
lines_of id told = filter (is_line_of id) told

-- where the frame with this id is held or waits, with the floor that it is held from
abbrev pub places : ℕ → World → List (Waiting × Option ℕ)
places id w =
    map (λ h. (h.waiting, Some h.floor)) (filter (λ h. h.waiting.id == id) w.held)
    ++ map (λ f. (f, None)) (filter (λ f. f.id == id) w.waiting)

-- a count that was published, and not before this one was
abbrev pub IsPoint : World → ℕ → ℕ → Type 0
IsPoint w since point = (has nat_cmp w.counts point ≡ true) × (since ≤ point)

-- the lines of a frame that a chip decides: its cut, the class, and each port of the chip's share by the table of the cut
abbrev pub chip_lines : World → Chip → Waiting → List Line
chip_lines w c f =
    lines.Chip f.id (length w.history) c.count (class_of w c f)
    ∷ sent f.id (chip_out w.setup.domains (table_of_chip w c) f.port f.bytes f.head)

-- the lines of a frame that software sends: the point, and each port of software's share by the table of that point
abbrev pub soft_lines : World → Waiting → ℕ → List Line
soft_lines w f point = lines.Soft f.id point ∷ sent f.id (soft_out w.setup.domains (table_at w point) f.port f.bytes f.head f.mark)

-- What software has done by now with a frame that came to it when so many changes were published, and the lines of that.
pub data InSoftware (since : ℕ) (now : World) (f : Waiting) (told : List Line) : Type 0 where
  waits : places f.id now ≡ (f, None) ∷ [] → told ≡ [] → InSoftware since now f told
  holds : (floor : ℕ) → places f.id now ≡ (f, Some floor) ∷ [] → IsPoint now since floor → told ≡ lines.Held f.id floor ∷ [] → InSoftware since now f told
  serves : (point : ℕ) → places f.id now ≡ [] → IsPoint now since point → told ≡ soft_lines now f point → InSoftware since now f told
  posts : (floor point : ℕ) → places f.id now ≡ [] → IsPoint now since floor → IsPoint now floor point
      → told ≡ lines.Held f.id floor ∷ soft_lines now f point → InSoftware since now f told

-- Software has it no more, or never had it.
abbrev pub IsNowhere : World → Waiting → List Line → List Line → Type 0
IsNowhere now f told all = (places f.id now ≡ []) × (told ≡ all)

-- A frame comes to software where another one may wait there, and else is lost.
abbrev pub Comes : Bool → ℕ → World → Waiting → List Line → Type 0
Comes true since now f told = InSoftware since now f told
Comes false since now f told = IsNowhere now f told (lines.Overrun f.id ∷ [])

-- whether one may wait
abbrev pub may_wait : World → Bool
may_wait w = nat_lt (length w.waiting + length w.held) most_waiting

-- what follows the chip's lines of a frame of this class that entered in world `w`
abbrev pub Follows : Class → World → World → Waiting → List Line → Type 0
Follows Drop w now f told = IsNowhere now f told []
Follows Trap w now f told = Comes (may_wait w) w.published now (record f { mark = mark_of Trap w.setup.domains f.port }) told
Follows Copy w now f told = Comes (may_wait w) w.published now (record f { mark = mark_of Copy w.setup.domains f.port }) told
Follows Forward w now f told = IsNowhere now f told []

-- The lines of a frame that entered by a port of this chip in world `w`, in a run that has come further.
pub record ByChip (w : World) (c : Chip) (f : Waiting) (x : Stepped) : Type 0 where
  pub later : List Line
  pub all : lines_of f.id x.1 ≡ chip_lines w c f ++ later
  pub follows : Follows (class_of w c f) w x.0 f later

-- and by a port of software
abbrev pub BySoftware : World → Waiting → Stepped → Type 0
BySoftware w f x = Comes (may_wait w) w.published x.0 f (lines_of f.id x.1)

-- By which point software may send a frame: one that waits by what is published, one that is held by a count that was published, its
-- floor or a later one.
abbrev pub IsDecidedAt : World → Option ℕ → ℕ → Type 0
IsDecidedAt w None point = point ≡ w.published
IsDecidedAt w (Some floor) point = IsPoint w floor point

-- What a step from world `w` to `y` does to a frame that waits, or is held from a floor, and the step's lines of it.
pub data Moves (w : World) (f : Waiting) (floor : Option ℕ) (y : Stepped) : Type 0 where
  stays : places f.id y.0 ≡ (f, floor) ∷ [] → lines_of f.id y.1 ≡ [] → Moves w f floor y
  is_held : floor ≡ None → places f.id y.0 ≡ (f, Some w.published) ∷ [] → lines_of f.id y.1 ≡ lines.Held f.id w.published ∷ [] → Moves w f floor y
  is_sent : (point : ℕ) → places f.id y.0 ≡ [] → IsDecidedAt w floor point → lines_of f.id y.1 ≡ soft_lines w f point → Moves w f floor y

-- the frame that enters next, by this port
abbrev pub entering : World → ℕ → List ℕ → Head → Waiting
entering w port bytes head = record { id = w.next; port = port; bytes = bytes; head = head; mark = None }

-- where among the steps of a run the frame with this id enters
pub record EntersIn (setup : Setup) (steps : List Step) (id : ℕ) : Type 0 where
  pub before : List Step
  pub port : ℕ
  pub bytes : List ℕ
  pub after : List Step
  pub parts : steps ≡ before ++ Rx port bytes ∷ after
  pub next : (run setup before).0.next ≡ id
