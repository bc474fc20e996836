-- A frame enters: the chip of its port decides it, or it waits for software, or both.
-- Source: the kernel's switchdev.rst (frames that a chip hands to the processor); ids, limits and lines are this profile's.
use Rattle.std.specs.Prelude.{ℕ, ◌+◌, nat_lt, if◌then◌else◌, List, [], ◌∷◌, ◌++◌, length}
use Rattle.std.specs.declared.option.Option.TheVariants.{None, Some}
use Rattle.std.specs.declared.result.Result.{Result}
use Rattle.std.specs.declared.result.Result.TheVariants.{Ok, Err}
use Rattle.std.specs.declared.option.Option.{Option}
use Rattle.br_model.specs.declared.frame.Class.{Class}
use Rattle.br_model.specs.declared.frame.Class.TheVariants.{Drop, Trap, Copy, Forward}
use Rattle.br_model.specs.declared.frame.FrameFault.{FrameFault}
use Rattle.br_model.specs.declared.frame.Head.{Head}
use Rattle.br_model.specs.declared.transcript.Line.TheVariants as lines
use Rattle.br_model.specs.Plane.Chip.{Chip, notes}
use Rattle.br_model.specs.Forward.Class.{class}
use Rattle.br_model.specs.Table.Domains.{domain_of}
use Rattle.br_model.specs.Wire.Frames.{frame}
use Rattle.br_model.specs.Table.Limits.{most_waiting}
use Rattle.br_model.specs.Wire.Messages.{message}
use Rattle.br_model.specs.Forward.Shares.{chip_out, mark_of}
use Rattle.br_model.specs.Plane.World.{World, Waiting, Stepped, chip_at, with_chip, table_of_chip, sent, after_lines}

-- A frame waits for software, unless as many wait or are held as may.
abbrev pub waits : World → Waiting → Stepped
waits w f =
    if nat_lt (length w.waiting + length w.held) most_waiting
    then (record w { waiting = w.waiting ++ f ∷ [] }, [])
    else (w, lines.Overrun f.id ∷ [])

-- what goes on to the processor of a frame that a chip has decided
abbrev pub goes_on : Class → World → Waiting → Stepped
goes_on Drop w f = (w, [])
goes_on Trap w f = waits w f
goes_on Copy w f = waits w f
goes_on Forward w f = (w, [])

-- The chip decides the frame by its table, sends its share, and notes the source.
abbrev pub enters_chip : World → Chip → Class → Waiting → Stepped
enters_chip w c class f = after_lines
    (lines.Chip f.id (length w.history) c.count class ∷ sent f.id (chip_out w.setup.domains (table_of_chip w c) f.port f.bytes f.head))
    (goes_on class (with_chip w (notes (table_of_chip w c) f.port f.head c)) (record f { mark = mark_of class w.setup.domains f.port }))

-- the class of a frame at a chip
abbrev pub class_of : World → Chip → Waiting → Class
class_of w c f = class w.setup.domains (table_of_chip w c) f.port f.head (message f.bytes f.head)

-- the chip of a domain, which is that of a declared port
abbrev pub chip_of : World → Option ℕ → Option Chip
chip_of w None = None
chip_of w (Some dom) = chip_at w dom

abbrev pub enters_by : World → Option Chip → Waiting → Stepped
enters_by w None f = waits w f
enters_by w (Some c) f = enters_chip w c (class_of w c f) f

-- It enters by the chip of its port's domain, or by software alone.
abbrev pub enters_at : World → Waiting → Stepped
enters_at w f = enters_by w (chip_of w (domain_of w.setup.domains f.port)) f

-- the bytes with the id are a frame, or none
abbrev pub enters_as : World → ℕ → ℕ → List ℕ → Result Head FrameFault → Stepped
enters_as w id port bytes (Err why) = (w, lines.Unread id why ∷ [])
enters_as w id port bytes (Ok head) = enters_at w (record { id = id; port = port; bytes = bytes; head = head; mark = None })

-- The bytes take the next id.
abbrev pub enters : World → ℕ → List ℕ → Stepped
enters w port bytes = enters_as (record w { next = w.next + 1 }) w.next port bytes (frame bytes)
