-- A frame's entry, as the step of the world.
use Rattle.std.proofs.Common.{◌≡◌, ℕ, ◌+◌, nat_lt, true, false, cond, List, [], ◌∷◌, ◌++◌, length, Option, None, Some, refl, sym, ap, ap₂, subst, ◌∙◌}
use Rattle.std.specs.declared.result.Result.TheVariants.{Ok}
use Rattle.br_model.specs.declared.frame.Class.{Class}
use Rattle.br_model.specs.declared.frame.Class.TheVariants.{Drop, Trap, Copy, Forward}
use Rattle.br_model.specs.declared.frame.Head.{Head}
use Rattle.br_model.specs.declared.transcript.Line.{Line}
use Rattle.br_model.specs.declared.transcript.Line.TheVariants as lines
use Rattle.br_model.specs.Plane.Chip.{Chip, chip_in, notes, put_chip}
use Rattle.br_model.specs.Forward.Class as classes
use Rattle.br_model.specs.Table.Domains.{domain_of}
use Rattle.br_model.specs.Wire.Frames.{frame}
use Rattle.br_model.specs.Table.Limits.{most_waiting}
use Rattle.br_model.specs.Wire.Messages.{message}
use Rattle.br_model.specs.Plane.Entering.{waits, goes_on, enters_as, enters_by, enters_chip, chip_of}
use Rattle.br_model.specs.declared.steps.Step.TheVariants.{Rx}
use Rattle.br_model.specs.Plane.Steps.{world_step}
use Rattle.br_model.specs.Plane.World.{World, Waiting, Stepped, sent, after_lines}
use Rattle.br_model.specs.Forward.Shares.{chip_out, mark_of}
use Rattle.plane_parts.specs.declared.frames.Arrival.{Arrival}
use Rattle.plane_parts.specs.declared.frames.Arrival.TheVariants.{Waits, Overruns}
use Rattle.plane_parts.specs.Arrivals.{arrival, arrival_lines, settled}
use Rattle.plane_parts.specs.Queued.{Queued}
use Rattle.check_world.specs.Sides.{SidesState, table_of, world_of}
use Rattle.check_world.specs.Worlds.{Tells, arrival_by}

-- where the next id is taken
abbrev counted : SidesState → Queued → ℕ → World
counted s q step = world_of s (record q { next = q.next + 1 }) step

waits_as : (s : SidesState) (q : Queued) (step : ℕ) (f : Waiting) → waits (counted s q step) f ≡ (world_of s (settled q (arrival q f)) step, arrival_lines f.id (arrival q f))
waits_as s q step f =
    elim (nat_lt (length q.waiting + length q.held) most_waiting) as (λ b. cond {A = Stepped} b (world_of s (settled q (Waits f)) step, []) (counted s q step, arrival_lines f.id Overruns)
    ≡ (world_of s (settled q (cond b (Waits f) Overruns)) step, arrival_lines f.id (cond b (Waits f) Overruns))) [
      | true ↦ refl
      | false ↦ refl
    ]

-- the chip of the domain notes what the frame leaves there
abbrev noting : SidesState → Chip → SidesState
noting s c = record s { chips = put_chip s.chips c }

goes_as : (class : Class) (s : SidesState) (c : Chip) (q : Queued) (step port : ℕ) (bytes : List ℕ) (head : Head)
    → goes_on class (counted (noting s c) q step) (record { id = q.next; port = port; bytes = bytes; head = head; mark = mark_of class s.setup.domains port })
    ≡ (world_of (noting s c) (settled q (arrival_by class s.setup.domains q port bytes head)) step, arrival_lines q.next (arrival_by class s.setup.domains q port bytes head))
goes_as Drop s c q step port bytes head = refl
goes_as Trap s c q step port bytes head = waits_as (noting s c) q step (record { id = q.next; port = port; bytes = bytes; head = head; mark = None })
goes_as Copy s c q step port bytes head = waits_as (noting s c) q step (record { id = q.next; port = port; bytes = bytes; head = head; mark = domain_of s.setup.domains port })
goes_as Forward s c q step port bytes head = refl

module _ (s : SidesState) (q : Queued) (n port : ℕ) (bytes : List ℕ) (head : Head) (is : frame bytes ≡ Ok head) where
  -- as it enters
  abbrev entering : Waiting
  entering = record { id = q.next; port = port; bytes = bytes; head = head; mark = None }

  pub enters_software : chip_of (world_of s q n) (domain_of s.setup.domains port) ≡ None
      → world_step (world_of s q n) (Rx port bytes) ≡ (world_of s (settled q (arrival q entering)) (n + 1), arrival_lines q.next (arrival q entering))
  enters_software off =
      ap (λ r. enters_as (counted s q (n + 1)) q.next port bytes r) is
      ∙ ap (λ o. enters_by (counted s q (n + 1)) o entering) (off_chip (domain_of s.setup.domains port) off)
      ∙ waits_as s q (n + 1) entering
    where
      off_chip : (o : Option ℕ) → chip_of (world_of s q n) o ≡ None → chip_of (counted s q (n + 1)) o ≡ None
      off_chip None e = refl
      off_chip (Some dom) e = e

  module _ (dom : ℕ) (c : Chip) (on : domain_of s.setup.domains port ≡ Some dom) (found : chip_in s.chips dom ≡ Some c) where
    -- the lines of the chip
    abbrev pub of_chip : Class → List Line
    of_chip class = lines.Chip q.next (length s.history) c.count class ∷ sent q.next (chip_out s.setup.domains (table_of s c) port bytes head)

    -- the sides after it
    abbrev pub noted : SidesState
    noted = noting s (notes (table_of s c) port head c)

    pub enters_by_chip : (k : Class) → k ≡ classes.class s.setup.domains (table_of s c) port head (message bytes head)
        → world_step (world_of s q n) (Rx port bytes)
        ≡ (world_of noted (settled q (arrival_by k s.setup.domains q port bytes head)) (n + 1), of_chip k ++ arrival_lines q.next (arrival_by k s.setup.domains q port bytes head))
    enters_by_chip k decided =
        ap (λ r. enters_as (counted s q (n + 1)) q.next port bytes r) is
        ∙ ap (λ o. enters_by (counted s q (n + 1)) o entering) (ap (chip_of (counted s q (n + 1))) on ∙ found)
        ∙ sym (ap (λ class. enters_chip (counted s q (n + 1)) c class entering) decided)
        ∙ ap (λ x. after_lines (of_chip k) x) (goes_as k s (notes (table_of s c) port head c) q (n + 1) port bytes head)

-- what contracts say of it

pub tells_software : (old : World) (s : SidesState) (q r : Queued) (n step port : ℕ) (bytes : List ℕ) (head : Head) (a : Arrival) → frame bytes ≡ Ok head → world_of s q n ≡ old
    → chip_of old (domain_of old.setup.domains port) ≡ None → step ≡ old.steps + 1 → a ≡ arrival q (record { id = q.next; port = port; bytes = bytes; head = head; mark = None }) → r ≡ settled q a
    → Tells old (Rx port bytes) (world_of s r step) (arrival_lines q.next a)
tells_software old s q r n step port bytes head a is was off at arrived left =
    subst (λ (o : World). Tells o (Rx port bytes) (world_of s r step) (arrival_lines q.next a)) was
    (enters_software s q n port bytes head is (subst (λ (o : World). chip_of o (domain_of o.setup.domains port) ≡ None) (sym was) off)
    ∙ ap (λ (x : Arrival). (world_of s (settled q x) (n + 1), arrival_lines q.next x)) (sym arrived)
    ∙ ap (λ (x : Queued). (world_of s x (n + 1), arrival_lines q.next a)) (sym left)
    ∙ ap (λ i. (world_of s r i, arrival_lines q.next a)) (sym (at ∙ ap (λ (o : World). o.steps + 1) (sym was))))

module _ (old : World) (s t : SidesState) (q r : Queued) (n step port dom : ℕ) (bytes : List ℕ) (head : Head) (c : Chip) (k : Class) (a : Arrival) where
  abbrev pub told : List Line
  told = (lines.Chip q.next (length s.history) c.count k ∷ sent q.next (chip_out s.setup.domains (table_of s c) port bytes head)) ++ arrival_lines q.next a

  pub tells_chip : frame bytes ≡ Ok head → world_of s q n ≡ old → domain_of old.setup.domains port ≡ Some dom → chip_in s.chips dom ≡ Some c → step ≡ old.steps + 1
      → k ≡ classes.class s.setup.domains (table_of s c) port head (message bytes head) → t ≡ record s { chips = put_chip s.chips (notes (table_of s c) port head c) }
      → a ≡ arrival_by k s.setup.domains q port bytes head → r ≡ settled q a → Tells old (Rx port bytes) (world_of t r step) told
  tells_chip is was on found at decided after arrived left =
      let ended = record s { chips = put_chip s.chips (notes (table_of s c) port head c) } in
      let first = lines.Chip q.next (length s.history) c.count k ∷ sent q.next (chip_out s.setup.domains (table_of s c) port bytes head) in
      subst (λ (o : World). Tells o (Rx port bytes) (world_of t r step) told) was
      (enters_by_chip s q n port bytes head is dom c (ap (λ (o : World). domain_of o.setup.domains port) was ∙ on) found k decided
      ∙ ap (λ (x : Arrival). (world_of ended (settled q x) (n + 1), first ++ arrival_lines q.next x)) (sym arrived)
      ∙ ap₂ (λ (x : SidesState) (y : Queued). (world_of x y (n + 1), told)) (sym after) (sym left)
      ∙ ap (λ i. (world_of t r i, told)) (sym (at ∙ ap (λ (o : World). o.steps + 1) (sym was))))
