-- How each step ends, by cases: what is proved of the cases is so of all steps, and walks none of their tests.
use Rattle.std.proofs.Common.{◌≡◌, ℕ, ◌+◌, Bool, true, false, cond, List, [], ◌∷◌, ◌++◌, length, Option, None, Some, refl, arith}
use Rattle.std.proofs.lemmas.Bool.{and_parts, leb-true}
use Rattle.std.specs.Prelude.{nat_le, nat_lt}
use Rattle.std.specs.Option.{unwrap_or}
use Rattle.std.specs.Ordering.{nat_cmp}
use Rattle.std.specs.declared.result.Result.{Result}
use Rattle.std.specs.declared.result.Result.TheVariants.{Ok, Err}
use Rattle.br_model.specs.declared.change.Change.{Change}
use Rattle.br_model.specs.declared.steps.Command.{Command}
use Rattle.br_model.specs.declared.frame.Class.{Class}
use Rattle.br_model.specs.declared.frame.Class.TheVariants.{Drop, Trap, Copy, Forward}
use Rattle.br_model.specs.declared.frame.FrameFault.{FrameFault}
use Rattle.br_model.specs.declared.frame.Head.{Head}
use Rattle.br_model.specs.declared.steps.Event.{Event}
use Rattle.br_model.specs.declared.steps.Event.TheVariants as events
use Rattle.br_model.specs.declared.steps.Refusal.{Refusal}
use Rattle.br_model.specs.declared.steps.Refusal.TheVariants.{NoSuchPoint, NothingPending, NothingReported, NothingToPost, NothingWaiting}
use Rattle.br_model.specs.declared.steps.Step.{Step}
use Rattle.br_model.specs.declared.steps.Step.TheVariants.{Rx, Cmd, Now, Serve, Hold, Post, Turn, Report, Sweep, Publish}
use Rattle.br_model.specs.declared.transcript.Line.{Line}
use Rattle.br_model.specs.declared.transcript.Line.TheVariants as lines
use Rattle.br_model.specs.Control.Learning.{Triple}
use Rattle.br_model.specs.Data.Maps.{has}
use Rattle.br_model.specs.Forward.Shares.{chip_out, mark_of}
use Rattle.br_model.specs.Plane.Chip.{Chip, applies, notes, put_chip}
use Rattle.br_model.specs.Plane.ChipSteps.{reports, sweeps, swept, tells, turns, turns_to}
use Rattle.br_model.specs.Plane.Entering.{chip_of, class_of, enters_as, enters_by, goes_on, waits}
use Rattle.br_model.specs.Plane.Serving.{held_with, holds, is_point, lets_go, posts, posts_at, posts_held, serves}
use Rattle.br_model.specs.Plane.Steps.{does, publishes}
use Rattle.br_model.specs.Plane.World.{World, Waiting, Holding, Stepped, after_lines, answered, chip_at, done, next_of, reacts, refused, sent, table_of_chip, with_chip}
use Rattle.br_model.specs.Table.Domains.{domain_of}
use Rattle.br_model.specs.Table.Limits.{most_waiting}
use Rattle.br_model.specs.Theorems.FrameLines.{IsPoint, entering}
use Rattle.br_model.specs.Wire.Frames.{frame}

-- whether a frame of this class goes on to software
abbrev pub goes : Class → Bool
goes Drop = false
goes Trap = true
goes Copy = true
goes Forward = false

-- Who decides a frame that enters: the chips that have noted it, the frame as software would take it, the first lines, and whether it
-- goes on to software.
pub data Enters (w : World) (port : ℕ) (bytes : List ℕ) (head : Head) : List Chip → Waiting → List Line → Bool → Type 0 where
  by_software : chip_of w (domain_of w.setup.domains port) ≡ None → Enters w port bytes head w.chips (entering w port bytes head) [] true
  by_chip : (c : Chip) → chip_of w (domain_of w.setup.domains port) ≡ Some c
      → Enters w port bytes head (put_chip w.chips (notes (table_of_chip w c) port head c))
      (record (entering w port bytes head) { mark = mark_of (class_of w c (entering w port bytes head)) w.setup.domains port })
      (lines.Chip w.next (length w.history) c.count (class_of w c (entering w port bytes head)) ∷ sent w.next (chip_out w.setup.domains (table_of_chip w c) port bytes head))
      (goes (class_of w c (entering w port bytes head)))

-- What becomes of a frame that goes on to software or doesn't: the frames that wait then, and the last lines.
pub data Joins (held : List Holding) (waiting : List Waiting) (f : Waiting) : Bool → List Waiting → List Line → Type 0 where
  passes_by : Joins held waiting f false waiting []
  finds_room : nat_lt (length waiting + length held) most_waiting ≡ true → Joins held waiting f true (waiting ++ f ∷ []) []
  overruns : nat_lt (length waiting + length held) most_waiting ≡ false → Joins held waiting f true waiting (lines.Overrun f.id ∷ [])

-- the entry of bytes that are a frame
pub record Entry (w : World) (port : ℕ) (bytes : List ℕ) : Type 0 where
  pub head : Head
  pub chips : List Chip
  pub entered : Waiting
  pub first : List Line
  pub goes_on : Bool
  pub waiting : List Waiting
  pub last : List Line
  pub is : frame bytes ≡ Ok head
  pub enters : Enters w port bytes head chips entered first goes_on
  pub joins : Joins w.held w.waiting entered goes_on waiting last

-- The frame that software sends, the floor that it was held from, those that are held and that wait then, and the point of the table.
pub data Leaves (w : World) : Step → Waiting → Option ℕ → List Holding → List Waiting → ℕ → Type 0 where
  by_serve : (f : Waiting) (later : List Waiting) → w.waiting ≡ f ∷ later → Leaves w Serve f None w.held later w.published
  by_post : (id : ℕ) (named : Option ℕ) (h : Holding) (point : ℕ) → held_with w id ≡ Some h → unwrap_or named h.floor ≡ point
      → (has nat_cmp w.counts h.floor ≡ true → IsPoint w h.floor point) → Leaves w (Post id named) h.waiting (Some h.floor) (lets_go w h.waiting.id).held w.waiting point

-- The event that the bridge answers, and the chips where it is accepted.
pub data Answers (w : World) : Step → List Chip → Event → Type 0 where
  by_command : (c : Command) → Answers w (Cmd c) w.chips (events.Cmd c)
  by_moment : (moment : ℕ) → Answers w (Now moment) w.chips (events.Moment moment)
  by_report : (dom : ℕ) (c : Chip) (x : Triple) (later : List Triple) → chip_at w dom ≡ Some c → c.reports ≡ x ∷ later
      → Answers w (Report dom) (put_chip w.chips (record c { reports = later })) (events.Told x.0 x.1 x.2)
  by_sweep : (dom : ℕ) (c : Chip) → chip_at w dom ≡ Some c → Answers w (Sweep dom) (put_chip w.chips (record c { hits = [] })) (swept w c)

pub data Ends (w : World) : Step → Stepped → Type 0 where
  ends_refused : {step : Step} (why : Refusal) → Ends w step (refused w why)
  ends_unread : (port : ℕ) (bytes : List ℕ) (why : FrameFault) → frame bytes ≡ Err why
      → Ends w (Rx port bytes) (record w { next = w.next + 1 }, lines.Unread w.next why ∷ [])
  ends_entered : (port : ℕ) (bytes : List ℕ) (n : Entry w port bytes)
      → Ends w (Rx port bytes) (record w { next = w.next + 1; chips = n.chips; waiting = n.waiting }, n.first ++ n.last)
  ends_held : (f : Waiting) (later : List Waiting) → w.waiting ≡ f ∷ later → Ends w Hold (holds w (f ∷ later))
  ends_sent : {step : Step} {floor : Option ℕ} (f : Waiting) (held : List Holding) (waiting : List Waiting) (point : ℕ) → Leaves w step f floor held waiting point
      → Ends w step (posts (record w { held = held; waiting = waiting }) f point)
  ends_applied : (dom : ℕ) (c : Chip) (d : Change) → chip_at w dom ≡ Some c → next_of w c ≡ Some d → Ends w (Turn dom) (done (with_chip w (applies c d)))
  ends_idle : (dom : ℕ) → Ends w (Sweep dom) (done w)
  ends_answered : {step : Step} (chips : List Chip) (e : Event) → Answers w step chips e → Ends w step (answered w (record w { chips = chips }) (reacts w e))
  ends_published : Ends w Publish (done (publishes w (length w.history)))

module _ (w : World) where
  joins-ends : (port : ℕ) (bytes : List ℕ) (head : Head) (chips : List Chip) (f : Waiting) (first : List Line) → frame bytes ≡ Ok head → Enters w port bytes head chips f first true
      → Ends w (Rx port bytes) (after_lines first (waits (record w { next = w.next + 1; chips = chips }) f))
  joins-ends port bytes head chips f first is enters =
      (elim (nat_lt (length w.waiting + length w.held) most_waiting) as (λ b. nat_lt (length w.waiting + length w.held) most_waiting ≡ b
      → Ends w (Rx port bytes) (after_lines first (cond {A = Stepped} b (record w { next = w.next + 1; chips = chips; waiting = w.waiting ++ f ∷ [] }, [])
      (record w { next = w.next + 1; chips = chips }, lines.Overrun f.id ∷ [])))) [
        | true ↦ λ room. by (w.waiting ++ f ∷ []) [] (finds_room room)
        | false ↦ λ full. by w.waiting (lines.Overrun f.id ∷ []) (overruns full)
      ]) refl
    where
      by : (waiting : List Waiting) (last : List Line) → Joins w.held w.waiting f true waiting last
          → Ends w (Rx port bytes) (record w { next = w.next + 1; chips = chips; waiting = waiting }, first ++ last)
      by waiting last joins = ends_entered port bytes (record { head = head; chips = chips; entered = f; first = first; goes_on = true; waiting = waiting; last = last; is = is; enters = enters; joins = joins })

  passes-ends : (port : ℕ) (bytes : List ℕ) (head : Head) (chips : List Chip) (f : Waiting) (first : List Line) → frame bytes ≡ Ok head → Enters w port bytes head chips f first false
      → Ends w (Rx port bytes) (record w { next = w.next + 1; chips = chips }, first ++ [])
  passes-ends port bytes head chips f first is enters = ends_entered port bytes
      (record { head = head; chips = chips; entered = f; first = first; goes_on = false; waiting = w.waiting; last = []; is = is; enters = enters; joins = passes_by })

  goes-ends : (class : Class) (port : ℕ) (bytes : List ℕ) (head : Head) (chips : List Chip) (f : Waiting) (first : List Line) → frame bytes ≡ Ok head
      → Enters w port bytes head chips f first (goes class) → Ends w (Rx port bytes) (after_lines first (goes_on class (record w { next = w.next + 1; chips = chips }) f))
  goes-ends Drop port bytes head chips f first is enters = passes-ends port bytes head chips f first is enters
  goes-ends Trap port bytes head chips f first is enters = joins-ends port bytes head chips f first is enters
  goes-ends Copy port bytes head chips f first is enters = joins-ends port bytes head chips f first is enters
  goes-ends Forward port bytes head chips f first is enters = passes-ends port bytes head chips f first is enters

  enters_by-ends : (port : ℕ) (bytes : List ℕ) (head : Head) (o : Option Chip) → frame bytes ≡ Ok head → chip_of w (domain_of w.setup.domains port) ≡ o
      → Ends w (Rx port bytes) (enters_by (record w { next = w.next + 1 }) o (entering w port bytes head))
  enters_by-ends port bytes head None is on = joins-ends port bytes head w.chips (entering w port bytes head) [] is (by_software on)
  enters_by-ends port bytes head (Some c) is on = goes-ends (class_of w c (entering w port bytes head)) port bytes head _ _ _ is (by_chip c on)

  enters-ends : (port : ℕ) (bytes : List ℕ) (r : Result Head FrameFault) → frame bytes ≡ r → Ends w (Rx port bytes) (enters_as (record w { next = w.next + 1 }) w.next port bytes r)
  enters-ends port bytes (Err why) is = ends_unread port bytes why is
  enters-ends port bytes (Ok head) is = enters_by-ends port bytes head (chip_of w (domain_of w.setup.domains port)) is refl

  serves-ends : (fs : List Waiting) → w.waiting ≡ fs → Ends w Serve (serves w fs)
  serves-ends [] is = ends_refused NothingWaiting
  serves-ends (f ∷ later) is = ends_sent f w.held later w.published (by_serve f later is)

  holds-ends : (fs : List Waiting) → w.waiting ≡ fs → Ends w Hold (holds w fs)
  holds-ends [] is = ends_refused NothingWaiting
  holds-ends (f ∷ later) is = ends_held f later is

  posts_held-ends : (id : ℕ) (h : Holding) (named : Option ℕ) → held_with w id ≡ Some h → Ends w (Post id named) (posts_held w h named)
  posts_held-ends id h None is =
      ends_sent h.waiting (lets_go w h.waiting.id).held w.waiting h.floor (by_post id None h h.floor is refl (λ there. (there, omega arith)))
  posts_held-ends id h (Some point) is =
      (elim (is_point w h point) as (λ b. is_point w h point ≡ b
      → Ends w (Post id (Some point)) (cond {A = Stepped} b (posts (lets_go w h.waiting.id) h.waiting point) (refused w NoSuchPoint))) [
        | true ↦ λ e.
            let both = and_parts (has nat_cmp w.counts point) (nat_le h.floor point) e in
            ends_sent h.waiting (lets_go w h.waiting.id).held w.waiting point (by_post id (Some point) h point is refl (λ there. (both.0, leb-true h.floor point both.1)))
        | false ↦ λ e. ends_refused NoSuchPoint
      ]) refl

  posts_at-ends : (id : ℕ) (o : Option Holding) (named : Option ℕ) → held_with w id ≡ o → Ends w (Post id named) (posts_at w o named)
  posts_at-ends id None named is = ends_refused NothingToPost
  posts_at-ends id (Some h) named is = posts_held-ends id h named is

  turns_to-ends : (dom : ℕ) (c : Chip) (o : Option Change) → chip_at w dom ≡ Some c → next_of w c ≡ o → Ends w (Turn dom) (turns_to w c o)
  turns_to-ends dom c None at is = ends_refused NothingPending
  turns_to-ends dom c (Some d) at is = ends_applied dom c d at is

  turns-ends : (dom : ℕ) (o : Option Chip) → chip_at w dom ≡ o → Ends w (Turn dom) (turns w o)
  turns-ends dom None at = ends_refused NothingPending
  turns-ends dom (Some c) at = turns_to-ends dom c (next_of w c) at refl

  tells-ends : (dom : ℕ) (c : Chip) (rs : List Triple) → chip_at w dom ≡ Some c → c.reports ≡ rs → Ends w (Report dom) (tells w c rs)
  tells-ends dom c [] at is = ends_refused NothingReported
  tells-ends dom c (x ∷ later) at is = ends_answered _ _ (by_report dom c x later at is)

  reports-ends : (dom : ℕ) (o : Option Chip) → chip_at w dom ≡ o → Ends w (Report dom) (reports w o)
  reports-ends dom None at = ends_refused NothingReported
  reports-ends dom (Some c) at = tells-ends dom c c.reports at refl

  sweeps-ends : (dom : ℕ) (o : Option Chip) → chip_at w dom ≡ o → Ends w (Sweep dom) (sweeps w o)
  sweeps-ends dom None at = ends_idle dom
  sweeps-ends dom (Some c) at = ends_answered _ _ (by_sweep dom c at)

  pub does-ends : (step : Step) → Ends w step (does w step)
  does-ends (Rx port bytes) = enters-ends port bytes (frame bytes) refl
  does-ends (Cmd c) = ends_answered w.chips (events.Cmd c) (by_command c)
  does-ends (Now moment) = ends_answered w.chips (events.Moment moment) (by_moment moment)
  does-ends Serve = serves-ends w.waiting refl
  does-ends Hold = holds-ends w.waiting refl
  does-ends (Post id named) = posts_at-ends id (held_with w id) named refl
  does-ends (Turn dom) = turns-ends dom (chip_at w dom) refl
  does-ends (Report dom) = reports-ends dom (chip_at w dom) refl
  does-ends (Sweep dom) = sweeps-ends dom (chip_at w dom) refl
  does-ends Publish = ends_published
