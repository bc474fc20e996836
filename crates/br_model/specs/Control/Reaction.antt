-- How a bridge reacts to an event: a refusal, or changes and a new control state.
-- Source: the kernel's net/bridge; events and their order are this profile's, and so is that a frame by a chip's port teaches
-- by the chip's report alone.
use Rattle.std.specs.Prelude.{ℕ, ◌+◌, nat_lt, nat_le, Bool, if◌then◌else◌, List, length}
use Rattle.std.specs.declared.option.Option.{Option}
use Rattle.std.specs.declared.option.Option.TheVariants.{None, Some}
use Rattle.std.specs.declared.result.Result.{Result}
use Rattle.std.specs.declared.result.Result.TheVariants.{Ok, Err}
use Rattle.br_model.specs.declared.bpdu.BpduMsg.{BpduMsg}
use Rattle.br_model.specs.declared.change.Change.{Change}
use Rattle.br_model.specs.declared.frame.Head.{Head}
use Rattle.br_model.specs.declared.steps.Command.{Command}
use Rattle.br_model.specs.declared.steps.Event.{Event}
use Rattle.br_model.specs.declared.steps.Event.TheVariants.{Cmd, Moment, Sight, Told, Forget}
use Rattle.br_model.specs.declared.steps.Refusal.{Refusal}
use Rattle.br_model.specs.declared.steps.Refusal.TheVariants.{HistoryFull, Backward}
use Rattle.br_model.specs.declared.tree.TreeEvent.TheVariants as tree_events
use Rattle.br_model.specs.Control.Ageing.{expired, forgets, forgotten}
use Rattle.br_model.specs.Control.Commands.{command, sets, tells}
use Rattle.br_model.specs.Control.Control.{Control, renewed}
use Rattle.br_model.specs.Control.Course.{Course, from, makes_all}
use Rattle.br_model.specs.Control.Ends.{endings}
use Rattle.br_model.specs.Table.DomainPorts.{is_in_domain}
use Rattle.br_model.specs.Table.Domains.{software}
use Rattle.br_model.specs.Control.Learning.{Address, is_renewed, teach, taught, reported}
use Rattle.br_model.specs.Table.Limits.{most_changes}
use Rattle.br_model.specs.Table.Setup.{Setup}
use Rattle.br_model.specs.Control.Snooping.{snoops}
use Rattle.br_model.specs.Table.Table.{table}
use Rattle.br_model.specs.Control.TreeReaction.{tells_tree, heard}

-- A command is refused, or its changes are made; then the spanning tree acts, where the command tells it something.
abbrev pub commanded : Course → Command → Result (List Change) Refusal → Result Course Refusal
commanded r c (Err why) = Err why
commanded r c (Ok changes) = Ok (tells_tree (tells r.table c) (makes_all (record r { control = sets r.control c }) changes))

-- the moment comes
abbrev pub at_moment : ℕ → Course → Course
at_moment now r = record r { control = record r.control { now = now } }

-- learned entries expire
abbrev pub ages : Course → Course
ages r = makes_all r (forgets (expired r.table r.control))

-- what snooping learned ends
abbrev pub ends : Course → Course
ends r = makes_all r (endings r.control.now r.control.ends)

-- A moment may stay, but not go back. What is old by then is forgotten, what ends by then ends, and then the spanning tree does
-- what is due.
abbrev pub passes_to : ℕ → Course → Result Course Refusal
passes_to now r = if nat_lt now r.control.now then Err Backward else Ok (tells_tree (Some tree_events.Moment) (ends (ages (at_moment now r))))

-- the entry of the address is renewed at its port
abbrev pub renews : Address → ℕ → Course → Course
renews key port r = if is_renewed r.table key port then record r { control = renewed r.control key } else r

-- an address behind a port is learned
abbrev pub learns : ℕ → Option Address → Course → Course
learns port None r = r
learns port (Some key) r = makes_all (renews key port r) (taught r.table key port)

-- A frame that came by a chip's port teaches by the chip's report alone.
abbrev pub learns_of : Setup → ℕ → Head → Course → Course
learns_of setup port head r = if is_in_domain setup.domains software port then learns port (teach r.table port head) r else r

-- A frame is seen that software sent. It teaches its source; then snooping reads its message, and the spanning tree reads it, if
-- it is a message for it.
abbrev pub sees : Setup → ℕ → List ℕ → Head → Course → Course
sees setup port bytes head r = tells_tree (heard r.table port bytes head) (snoops port bytes head (learns_of setup port head r))

-- what the event does
abbrev pub happens : Setup → Course → Event → Result Course Refusal
happens setup r (Cmd c) = commanded r c (command r.table c)
happens setup r (Moment now) = passes_to now r
happens setup r (Sight port bytes head) = Ok (sees setup port bytes head r)
happens setup r (Told vid mac port) = Ok (makes_all r (reported r.table (vid, mac) port))
happens setup r (Forget triples) = Ok (makes_all r (forgets (forgotten r.table triples)))

pub record Reaction : Type 0 where
  -- in order
  pub changes : List Change
  pub control : Control
  -- the spanning tree's messages that go out, each by its port, in order
  pub messages : List (ℕ × BpduMsg)

-- whether the history has room for so many changes
abbrev pub has_room : List Change → List Change → Bool
has_room history changes = nat_le (length history + length changes) most_changes

-- The last refusal of every event: the history would have too many changes.
abbrev pub in_room : List Change → Result Course Refusal → Result Reaction Refusal
in_room history (Err why) = Err why
in_room history (Ok r) = if has_room history r.changes then Ok (record { changes = r.changes; control = r.control; messages = r.messages }) else Err HistoryFull

-- what the bridge with this history and this control state answers
unfoldable pub react : Setup → List Change → Control → Event → Result Reaction Refusal
react setup history control event = in_room history (happens setup (from (table history) control) event)
