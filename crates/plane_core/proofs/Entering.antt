-- A frame's entry, as the step of the world.
use Rattle.std.proofs.Common.{◌≡◌, ℕ, ◌+◌, nat_lt, true, false, cond, List, [], ◌∷◌, ◌++◌, length, Option, None, Some, refl, sym, ap, ap₂, ◌∙◌}
use Rattle.std.specs.declared.result.Result.TheVariants.{Ok}
use Rattle.br_model.specs.declared.frame.Class.{Class}
use Rattle.br_model.specs.declared.frame.Class.TheVariants.{Drop, Trap, Copy, Forward}
use Rattle.br_model.specs.declared.frame.Head.{Head}
use Rattle.br_model.specs.declared.transcript.Line.{Line}
use Rattle.br_model.specs.declared.transcript.Line.TheVariants as lines
use Rattle.br_model.specs.Plane.Chip.{Chip, chip_in, chip_table, hits_entry, offers, put_chip}
use Rattle.br_model.specs.Table.Domains.{domain_of}
use Rattle.br_model.specs.Wire.Frames.{frame}
use Rattle.br_model.specs.Control.Learning.{Address}
use Rattle.br_model.specs.Table.Limits.{most_waiting}
use Rattle.br_model.specs.Table.Table.{Table}
use Rattle.br_model.specs.Wire.Messages.{message}
use Rattle.br_model.specs.Plane.Entering.{waits, goes_on, enters_as, enters_by, enters_chip, chip_of}
use Rattle.br_model.specs.declared.steps.Step.TheVariants.{Rx}
use Rattle.br_model.specs.Plane.Steps.{world_step}
use Rattle.br_model.specs.Plane.World.{World, Waiting, Stepped, sent, after_lines}
use Rattle.br_model.specs.Forward.Shares.{chip_out, mark_of}
use Rattle.chip_pipeline.specs.Passed.{Passed, IsPass}
use Rattle.plane_parts.specs.declared.frames.Arrival.TheVariants.{Waits, Overruns}
use Rattle.plane_parts.specs.Arrivals.{arrival, arrival_lines, settled}
use Rattle.plane_core.specs.Planes.{arrival_by}
use Rattle.plane_parts.specs.Queued.{Queued}
use Rattle.plane_core.specs.Sides.{SidesState, world_of}

-- where the next id is taken
abbrev counted : SidesState → Queued → ℕ → World
counted s q step = world_of s (record q { next = q.next + 1 }) step

waits_as : (s : SidesState) (q : Queued) (step : ℕ) (f : Waiting) → waits (counted s q step) f ≡ (world_of s (settled q (arrival q f)) step, arrival_lines f.id (arrival q f))
waits_as s q step f =
    elim (nat_lt (length q.waiting + length q.held) most_waiting) as (λ b. cond {A = Stepped} b (world_of s (settled q (Waits f)) step, []) (counted s q step, arrival_lines f.id Overruns)
    ≡ (world_of s (settled q (cond b (Waits f) Overruns)) step, arrival_lines f.id (cond b (Waits f) Overruns))) [
      | true ↦ refl
      | false ↦ refl
    ]

-- the chip of the domain notes what the frame leaves there
abbrev noting : SidesState → Chip → SidesState
noting s c = record s { chips = put_chip s.chips c }

goes_as : (class : Class) (s : SidesState) (c : Chip) (q : Queued) (n step port : ℕ) (bytes : List ℕ) (head : Head)
    → goes_on class (counted (noting s c) q step) (record { id = q.next; port = port; bytes = bytes; head = head; mark = mark_of class s.setup.domains port })
    ≡ (world_of (noting s c) (settled q (arrival_by class (world_of s q n) port bytes head)) step, arrival_lines q.next (arrival_by class (world_of s q n) port bytes head))
goes_as Drop s c q n step port bytes head = refl
goes_as Trap s c q n step port bytes head = waits_as (noting s c) q step (record { id = q.next; port = port; bytes = bytes; head = head; mark = None })
goes_as Copy s c q n step port bytes head = waits_as (noting s c) q step (record { id = q.next; port = port; bytes = bytes; head = head; mark = domain_of s.setup.domains port })
goes_as Forward s c q n step port bytes head = refl

module _ (s : SidesState) (q : Queued) (n port : ℕ) (bytes : List ℕ) (head : Head) (is : frame bytes ≡ Ok head) where
  -- as it enters
  abbrev entering : Waiting
  entering = record { id = q.next; port = port; bytes = bytes; head = head; mark = None }

  pub enters_software : chip_of (world_of s q n) (domain_of s.setup.domains port) ≡ None
      → world_step (world_of s q n) (Rx port bytes) ≡ (world_of s (settled q (arrival q entering)) (n + 1), arrival_lines q.next (arrival q entering))
  enters_software off =
      ap (λ r. enters_as (counted s q (n + 1)) q.next port bytes r) is
      ∙ ap (λ o. enters_by (counted s q (n + 1)) o entering) (off_chip (domain_of s.setup.domains port) off)
      ∙ waits_as s q (n + 1) entering
    where
      off_chip : (o : Option ℕ) → chip_of (world_of s q n) o ≡ None → chip_of (counted s q (n + 1)) o ≡ None
      off_chip None e = refl
      off_chip (Some dom) e = e

  module _ (dom : ℕ) (c : Chip) (on : domain_of s.setup.domains port ≡ Some dom) (found : chip_in s.chips dom ≡ Some c) where
    -- by which the chip decides
    abbrev decides : Table
    decides = chip_table s.setup.domains.edition s.history c

    -- the lines of the chip
    abbrev of_chip : Class → List Line
    of_chip class = lines.Chip q.next (length s.history) c.count class ∷ sent q.next (chip_out s.setup.domains decides port bytes head)

    -- what the chip decided, as the step notes it
    abbrev noted : Class → Chip → Stepped
    noted class kept = after_lines (of_chip class)
        (goes_on class (counted (noting s kept) q (n + 1)) (record entering { mark = mark_of class s.setup.domains port }))

    pub enters_by_chip : (p : Passed) → IsPass s.setup.domains decides port head (message bytes head) p
        → world_step (world_of s q n) (Rx port bytes)
        ≡ (
          world_of (noting s (hits_entry p.hit (offers port p.report c))) (settled q (arrival_by p.class (world_of s q n) port bytes head)) (n + 1),
          of_chip p.class ++ arrival_lines q.next (arrival_by p.class (world_of s q n) port bytes head),
        )
    enters_by_chip p passed =
        ap (λ r. enters_as (counted s q (n + 1)) q.next port bytes r) is
        ∙ ap (λ o. enters_by (counted s q (n + 1)) o entering) (ap (chip_of (counted s q (n + 1))) on ∙ found)
        ∙ sym (ap (λ class. enters_chip (counted s q (n + 1)) c class entering) passed.class)
        ∙ sym (ap₂ (λ (hit report : Option Address). noted p.class (hits_entry hit (offers port report c))) passed.hit passed.report)
        ∙ ap (λ x. after_lines (of_chip p.class) x)
        (goes_as p.class s (hits_entry p.hit (offers port p.report c)) q n (n + 1) port bytes head)
