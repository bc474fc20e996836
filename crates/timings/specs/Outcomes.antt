-- What a frame would do that enters now, whenever the updates that wait are applied, and whenever is published.
-- Source: this profile.
use Rattle.std.specs.Prelude.{ℕ, Bool, true, false, ◌&&◌, if◌then◌else◌, List, [], ◌∷◌, ◌++◌, map, length}
use Rattle.std.specs.List.{list_any}
use Rattle.std.specs.declared.option.Option.{Option}
use Rattle.std.specs.declared.option.Option.TheVariants.{None, Some}
use Rattle.std.specs.declared.result.Result.{Result}
use Rattle.std.specs.declared.result.Result.TheVariants.{Ok, Err}
use Rattle.br_model.specs.declared.frame.Class.{Class}
use Rattle.br_model.specs.declared.frame.Class.TheVariants.{Drop, Trap, Copy, Forward}
use Rattle.br_model.specs.declared.frame.FrameFault.{FrameFault}
use Rattle.br_model.specs.declared.frame.Head.{Head}
use Rattle.br_model.specs.Forward.Class.{class}
use Rattle.br_model.specs.Forward.Shares.{chip_out, mark_of, soft_out}
use Rattle.br_model.specs.Plane.Chip.{Chip}
use Rattle.br_model.specs.Plane.Entering.{chip_of}
use Rattle.br_model.specs.Plane.Runs.{pending_of}
use Rattle.br_model.specs.Plane.World.{World, table_at}
use Rattle.br_model.specs.Table.Cut.{cut}
use Rattle.br_model.specs.Table.Domains.{domain_of}
use Rattle.br_model.specs.Table.Table.{Table, table}
use Rattle.br_model.specs.Wire.Frames.{frame}
use Rattle.br_model.specs.Wire.Messages.{message}
use Rattle.timings.specs.Greedy.{same_bytes}
use Rattle.timings.specs.Rows.{where_new}

-- what a chip does with a frame: its class, and the chip's ports by which it leaves
abbrev pub Deed : Type 0
Deed = Class × List ℕ

abbrev pub same_class : Class → Class → Bool
same_class Drop Drop = true
same_class Trap Trap = true
same_class Copy Copy = true
same_class Forward Forward = true
same_class a b = false

abbrev pub same_deed : Deed → Deed → Bool
same_deed a b = same_class a.0 b.0 && same_bytes a.1 b.1

abbrev pub deed_by : World → Table → ℕ → List ℕ → Head → Deed
deed_by w t port bytes head =
    (class w.setup.domains t port head (message bytes head), map (λ x. x.0) (chip_out w.setup.domains t port bytes head))

-- once it has applied so many updates
abbrev pub deed_at : World → ℕ → List ℕ → Head → ℕ → Deed
deed_at w port bytes head k = deed_by w (table (cut w.setup.domains.edition w.history k)) port bytes head

-- from what it has applied to all updates that there are
abbrev pub chip_rows : World → Chip → ℕ → List ℕ → Head → List (ℕ × Deed)
chip_rows w c port bytes head = where_new same_deed (deed_at w port bytes head) c.count (pending_of w c)

-- What software does with a frame, which it gets with a class or at a port of its own: by which ports it sends it, by the first so
-- many changes.

abbrev pub soft_ports : World → ℕ → List ℕ → Head → Option ℕ → ℕ → List ℕ
soft_ports w port bytes head mark point = map (λ x. x.0) (soft_out w.setup.domains (table_at w point) port bytes head mark)

abbrev pub points : ℕ → ℕ → List ℕ → List ℕ → List (ℕ × List ℕ)
points published all now at_end =
    if same_bytes now at_end then (published, now) ∷ [] else (published, now) ∷ (all, at_end) ∷ []

-- by what is published, and by all changes
abbrev pub soft_rows : World → ℕ → List ℕ → Head → Option ℕ → List (ℕ × List ℕ)
soft_rows w port bytes head mark =
    points w.published (length w.history) (soft_ports w port bytes head mark w.published) (soft_ports w port bytes head mark (length w.history))

-- a row of the answer
pub data Row : Type 0 where
  -- the bytes are no frame
  Unread : Row
  -- the chip of the domain, with so many updates applied
  ByChip : ℕ → ℕ → Class → List ℕ → Row
  -- software, by the first so many changes, of a frame with this class, or at a port of its own
  BySoftware : ℕ → Option Class → List ℕ → Row

abbrev pub soft_rows_as : World → ℕ → List ℕ → Head → Option ℕ → Option Class → List Row
soft_rows_as w port bytes head mark class = map (λ r. BySoftware r.0 class r.1) (soft_rows w port bytes head mark)

-- where a row of the chip gives the frame to software with this class
abbrev pub soft_rows_of : World → ℕ → List ℕ → Head → List (ℕ × Deed) → Class → List Row
soft_rows_of w port bytes head rows k =
    if list_any (λ r. same_class r.1.0 k) rows then soft_rows_as w port bytes head (mark_of k w.setup.domains port) (Some k) else []

abbrev pub rows_with : World → Chip → ℕ → List ℕ → Head → List (ℕ × Deed) → List Row
rows_with w c port bytes head rows =
    map (λ r. ByChip c.dom r.0 r.1.0 r.1.1) rows
    ++ (soft_rows_of w port bytes head rows Copy ++ soft_rows_of w port bytes head rows Trap)

abbrev pub rows_by : World → Option Chip → ℕ → List ℕ → Head → List Row
rows_by w None port bytes head = soft_rows_as w port bytes head None None
rows_by w (Some c) port bytes head = rows_with w c port bytes head (chip_rows w c port bytes head)

abbrev pub rows_as : World → ℕ → List ℕ → Result Head FrameFault → List Row
rows_as w port bytes (Err why) = Unread ∷ []
rows_as w port bytes (Ok head) = rows_by w (chip_of w (domain_of w.setup.domains port)) port bytes head

-- what these bytes would do at the port
unfoldable pub outcomes : World → ℕ → List ℕ → List Row
outcomes w port bytes = rows_as w port bytes (frame bytes)
