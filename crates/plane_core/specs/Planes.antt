-- What contracts see of a plane: its world, and the board over which it stands.
use Rattle.std.specs.Prelude.{◌≡◌, ◌≢◌, ℕ, true, List, [], ◌∷◌, IfSome, take, ◌≤◌, ◌<◌, ◌^◌}
use Rattle.std.specs.Ordering.{nat_cmp}
use Rattle.br_model.specs.Data.Maps.{has}
use Rattle.std.specs.Option.{is_some, option_map}
use Rattle.std.specs.declared.option.Option.{Option}
use Rattle.std.specs.declared.option.Option.TheVariants.{None, Some}
use Rattle.std.specs.declared.result.Result.{Result}
use Rattle.std.specs.declared.result.Result.TheVariants.{Ok, Err}
use Rattle.br_model.specs.declared.change.Update.{Update}
use Rattle.br_model.specs.declared.frame.FrameFault.{FrameFault}
use Rattle.br_model.specs.declared.frame.Head.{Head}
use Rattle.br_model.specs.declared.steps.Event.{Event}
use Rattle.br_model.specs.declared.steps.Event.TheVariants as events
use Rattle.br_model.specs.declared.transcript.Line.{Line}
use Rattle.br_model.specs.Table.Domains.{domain_of}
use Rattle.br_model.specs.Wire.Messages.{message}
use Rattle.br_model.specs.Plane.Chip.{Chip}
use Rattle.br_model.specs.Plane.Entering.{chip_of}
use Rattle.br_model.specs.Plane.Serving.{held_with}
use Rattle.br_model.specs.declared.steps.Step.{Step}
use Rattle.br_model.specs.declared.steps.Step.TheVariants.{Cmd, Now, Post, Turn}
use Rattle.br_model.specs.Plane.Steps.{world_step}
use Rattle.br_model.specs.Plane.World.{World, Waiting, Holding, chip_at, next_of, table_at, table_of_chip}
use Rattle.chip_pipeline.specs.Passed.{Passed, IsPass}
use Rattle.forward_rules.specs.declared.soft_tables.Verdict.{Verdict}
use Rattle.forward_rules.specs.Decided.{Decides}
use Rattle.table_publish.specs.Object.{Object, Whose}
use Rattle.table_publish.specs.declared.seat.Seen.{Seen}
use Rattle.br_model.specs.declared.frame.Class.{Class}
use Rattle.br_model.specs.declared.frame.Class.TheVariants.{Drop, Trap, Copy, Forward}
use Rattle.plane_parts.specs.declared.frames.Arrival.{Arrival}
use Rattle.plane_parts.specs.declared.frames.Arrival.TheVariants.{PassesBy}
use Rattle.plane_parts.specs.Arrivals.{arrival}
use Rattle.transcript_lines.specs.Rows.{Listed}
use Rattle.plane_parts.specs.Added.{Added}
use Rattle.plane_core.specs.declared.held.Held.{Held}
use Rattle.plane_core.specs.Shown.{shown_by, shown_of}
use Rattle.plane_core.specs.declared.faults.PostFault.{PostFault}
use Rattle.plane_core.specs.declared.faults.PostFault.TheVariants as posts
use Rattle.plane_core.specs.declared.faults.TurnFault.{TurnFault}
use Rattle.plane_core.specs.declared.faults.TurnFault.TheVariants as turns

pub record PlaneState : Type 0 where
  pub world : World
  pub board : Whose

-- A step of the world, over the same board, with these lines.
pub record Steps (old new : PlaneState) (step : Step) (lines : List Line) : Type 0 where
  pub world : world_step old.world step ≡ (new.world, lines)
  pub board : new.board ≡ old.board

-- what is published there
abbrev pub published_in : World → Object
published_in w = record { changes = take w.published w.history; counts = w.counts }

-- Commands, and moments before 2^53, are what a scenario names.
abbrev pub IsNamed : Event → Type 0
IsNamed (events.Cmd c) = Unit {0}
IsNamed (events.Moment now) = now < 2 ^ 53
IsNamed (events.Sight port bytes head) = ⊥
IsNamed (events.Told vid mac port) = ⊥
IsNamed (events.Forget stations) = ⊥

abbrev pub Accepts : PlaneState → PlaneState → Event → List Line → Type 0
Accepts old new (events.Cmd c) lines = Steps old new (Cmd c) lines
Accepts old new (events.Moment now) lines = Steps old new (Now now) lines
Accepts old new (events.Sight port bytes head) lines = ⊥
Accepts old new (events.Told vid mac port) lines = ⊥
Accepts old new (events.Forget stations) lines = ⊥

-- a frame that goes on to software
abbrev pub arrival_in : World → Waiting → Arrival
arrival_in w f = arrival (record { waiting = w.waiting; held = w.held; next = w.next }) f

-- whether this is the domain of the port, and has a chip; none where the port's domain has no chip, or it has no domain
abbrev pub IsOnChip : World → ℕ → Option ℕ → Type 0
IsOnChip w port None = chip_of w (domain_of w.setup.domains port) ≡ None
IsOnChip w port (Some dom) = (domain_of w.setup.domains port ≡ Some dom) × (is_some (chip_at w dom) ≡ true)

abbrev pub IsPassOf : World → Option Chip → ℕ → List ℕ → Head → Option Passed → Type 0
IsPassOf w None port bytes head pass = pass ≡ None
IsPassOf w (Some c) port bytes head pass = (p : Passed) × (pass ≡ Some p) × IsPass w.setup.domains (table_of_chip w c) port head (message bytes head) p

-- The pass by which a frame at the port of these bytes was decided: none where the port isn't a chip's or the bytes are no
-- frame.
abbrev pub IsDecidedBy : World → ℕ → List ℕ → Result Head FrameFault → Option Passed → Type 0
IsDecidedBy w port bytes (Err why) pass = pass ≡ None
IsDecidedBy w port bytes (Ok head) pass = IsPassOf w (chip_of w (domain_of w.setup.domains port)) port bytes head pass

-- what becomes of a frame at the port that the port's chip has put into this class
abbrev pub arrival_by : Class → World → ℕ → List ℕ → Head → Arrival
arrival_by Drop w port bytes head = PassesBy
arrival_by Trap w port bytes head = arrival_in w (record { id = w.next; port = port; bytes = bytes; head = head; mark = None })
arrival_by Copy w port bytes head = arrival_in w (record { id = w.next; port = port; bytes = bytes; head = head; mark = domain_of w.setup.domains port })
arrival_by Forward w port bytes head = PassesBy

-- A turn.

abbrev pub ticket_of : Option Update → Option ℕ
ticket_of None = None
ticket_of (Some u) = Some u.ticket

-- the ticket of the deferred change that waits for this chip, where one does: so many the chip has applied
abbrev pub next_ticket : World → Option Chip → Option ℕ
next_ticket w None = None
next_ticket w (Some c) = option_map (λ d. c.count) (next_of w c)

abbrev pub TurnsBy : PlaneState → PlaneState → ℕ → Option Update → List Line → Type 0
TurnsBy old new dom update lines = Steps old new (Turn dom) lines × IfSome (next_ticket old.world (chip_at old.world dom)) (λ ticket. ticket_of update ≡ Some ticket)

abbrev pub NotTurned : PlaneState → PlaneState → ℕ → Option Update → TurnFault → Type 0
NotTurned old new dom update turns.NoMemory = new ≡ old
NotTurned old new dom update (turns.OutOfTurn expected got) =
    (new ≡ old) × (next_ticket old.world (chip_at old.world dom) ≡ Some expected) × (ticket_of update ≢ Some expected) × (got ≡ ticket_of update)

abbrev pub Turned : PlaneState → PlaneState → ℕ → Option Update → Result Listed TurnFault → Type 0
Turned old new dom update (Ok lines) = TurnsBy old new dom update lines.lines
Turned old new dom update (Err why) = NotTurned old new dom update why

abbrev pub TurnedTo : PlaneState → PlaneState → ℕ → Option Update → List Line → List Line → Result (Unit {0}) TurnFault → Type 0
TurnedTo old new dom update before after (Ok done) = Added (TurnsBy old new dom update) before after
TurnedTo old new dom update before after (Err why) = NotTurned old new dom update why × (after ≡ before)

-- A post.

-- the frame with this id is held, and is what the caller has
pub record IsCopy (w : World) (h : Held) (x : Holding) : Type 0 where
  pub held : held_with w h.id ≡ Some x
  pub same : shown_by h ≡ shown_of x

-- What is asked of a decision of a held frame: its point was published, and it is that of the point's table.
pub record IsDecision (w : World) (x : Holding) (seen : Seen) : Type 0 where
  pub point : has nat_cmp w.counts seen.point ≡ true
  pub verdict : Decides w.setup.domains (table_at w seen.point) x.waiting.port x.waiting.head (message x.waiting.bytes x.waiting.head) seen.verdict

-- the verdict of a frame by the table of this point
abbrev pub DecidesAt : World → Waiting → ℕ → Verdict → Type 0
DecidesAt w f point verdict = Decides w.setup.domains (table_at w point) f.port f.head (message f.bytes f.head) verdict

-- of the oldest frame that waits, by what is published, with its id
abbrev pub DecidesOldest : World → List Waiting → Option (ℕ × Verdict) → Type 0
DecidesOldest w [] decided = decided ≡ None
DecidesOldest w (f ∷ later) decided = (verdict : Verdict) × (decided ≡ Some (f.id, verdict)) × DecidesAt w f w.published verdict

-- of a held frame, by its floor
abbrev pub DecidesFloor : World → Holding → Option Verdict → Type 0
DecidesFloor w x None = ⊥
DecidesFloor w x (Some verdict) = DecidesAt w x.waiting x.floor verdict

-- what was held is handed back, and all is as before
pub record IsBack (old new : PlaneState) (h given : Held) : Type 0 where
  pub same : new ≡ old
  pub back : given ≡ h

abbrev pub Posts : PlaneState → PlaneState → Held → Seen → List Line → Type 0
Posts old new h seen lines =
    Steps old new (Post h.id (Some seen.point)) lines × IfSome (held_with old.world h.id) (λ x. (shown_by h ≡ shown_of x) × (seen.point ≤ old.world.published))

-- The first of the tests that answers: another frame is held under the id; its point isn't published yet.
abbrev pub NotPosted : PlaneState → PlaneState → Held → Seen → PostFault → Type 0
NotPosted old new h seen (posts.NoMemory back) = IsBack old new h back
NotPosted old new h seen (posts.Stranger back) =
    IsBack old new h back × ((x : Holding) × (held_with old.world h.id ≡ Some x) × (shown_by h ≢ shown_of x))
NotPosted old new h seen (posts.Ahead back point published) =
    IsBack old new h back × ((x : Holding) × IsCopy old.world h x) × (old.world.published < seen.point) × (point ≡ seen.point) × (published ≡ old.world.published)
NotPosted old new h seen (posts.Unpublished lines) = ⊥

abbrev pub Posted : PlaneState → PlaneState → Held → Seen → Result Listed PostFault → Type 0
Posted old new h seen (Ok lines) = Posts old new h seen lines.lines
Posted old new h seen (Err why) = NotPosted old new h seen why

abbrev pub PostedTo : PlaneState → PlaneState → Held → Seen → List Line → List Line → Result (Unit {0}) PostFault → Type 0
PostedTo old new h seen before after (Ok done) = Added (Posts old new h seen) before after
PostedTo old new h seen before after (Err why) = NotPosted old new h seen why × (after ≡ before)
