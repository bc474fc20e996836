-- What the bridge answers an event, by what its definition says.
use Rattle.std.specs.Prelude.{ℕ, ◌≡◌, ◌≤◌, ◌<◌, ◌+◌, ◌^◌, true, false, List, [], ◌++◌, length}
use Rattle.std.specs.List.{fold}
use Rattle.std.specs.declared.result.Result.{Result}
use Rattle.std.specs.declared.result.Result.TheVariants.{Ok, Err}
use Rattle.br_model.specs.declared.change.Change.{Change}
use Rattle.br_model.specs.declared.frame.McastMsg.{McastMsg}
use Rattle.br_model.specs.declared.steps.Event.{Event}
use Rattle.br_model.specs.declared.steps.Event.TheVariants.{Cmd, Moment, Sight, Told, Forget}
use Rattle.br_model.specs.declared.steps.Refusal.{Refusal}
use Rattle.br_model.specs.declared.steps.Refusal.TheVariants.{HistoryFull}
use Rattle.br_model.specs.declared.transcript.Line.{Line}
use Rattle.br_model.specs.Control.Control.{Control, keeps_up}
use Rattle.br_model.specs.Control.Course.{Course, from}
use Rattle.br_model.specs.Wire.Frames.{frame}
use Rattle.br_model.specs.Plane.World.{control_lines}
use Rattle.br_model.specs.Control.Reaction.{Reaction, happens, has_room, in_room}
use Rattle.br_model.specs.Table.Limits.{most_changes}
use Rattle.br_model.specs.Table.Table.{table}
use Rattle.bridge_core.specs.declared.bridge.Reaction.{Reaction as Reacted}
use Rattle.bridge_state.specs.declared.faults.EventFault.{EventFault}
use Rattle.bridge_state.specs.declared.faults.EventFault.TheVariants.{Refused, NoMemory}
use Rattle.bridge_state.specs.declared.plan.Plan.{Plan}
use Rattle.bridge_state.specs.declared.snooping.Speaker.{Speaker}
use Rattle.bridge_state.specs.Hearing.{Hears, most, says}
use Rattle.bridge_core.specs.Kept.{Controlled}
use Rattle.bridge_state.specs.Plans.{Plans, planned}

-- Each moment is before 2^53, and what a sight says of its frame is what the frame says.
abbrev pub IsEvent : Event → Type 0
IsEvent (Cmd c) = Unit {0}
IsEvent (Moment now) = now < 2 ^ 53
IsEvent (Sight port bytes head) = frame bytes ≡ Ok head
IsEvent (Told vid mac port) = Unit {0}
IsEvent (Forget stations) = Unit {0}

-- The changes were made and are the history's last ones, from this control state on; or there was no room for them, or no memory.
abbrev pub Makes : {A : Type 0} → Controlled → Controlled → Control → List Change → Result A EventFault → Type 0
Makes old new control changes (Ok made) =
    (has_room old.history changes ≡ true) × (new ≡ record old { history = old.history ++ changes; control = fold keeps_up control changes })
Makes old new control changes (Err (Refused why)) = (has_room old.history changes ≡ false) × (why ≡ HistoryFull) × (new ≡ old)
Makes old new control changes (Err NoMemory) = new ≡ old

-- The changes of the reaction were made and are the history's last ones, and the lines of its messages were added; or nothing
-- changed.
abbrev pub Reacts : {A : Type 0} → Controlled → Controlled → List Line → List Line → Result A EventFault → Result Reaction Refusal → Type 0
Reacts old new before after (Ok reacted) answer =
    (r : Reaction) × (answer ≡ Ok r) × (new ≡ record old { history = old.history ++ r.changes; control = r.control })
    × (after ≡ before ++ control_lines old.setup.own r.messages)
Reacts old new before after (Err (Refused why)) answer = (answer ≡ Err why) × (new ≡ old) × (after ≡ before)
Reacts old new before after (Err NoMemory) answer = (new ≡ old) × (after ≡ before)

-- where the bridge stands
abbrev pub standing : Controlled → Course
standing b = from (table b.history) b.control

-- what the event comes to there
abbrev pub comes_to : Controlled → Event → Result Course Refusal
comes_to b event = happens b.setup (standing b) event

-- The answer was carried out, and the lines of its messages were added; or it was refused.
abbrev pub CarriesOut : Controlled → Controlled → List Line → List Line → Result (Unit {0}) EventFault → Result Course Refusal → Type 0
CarriesOut old new before after result answer = Reacts old new before after result (in_room old.history answer)

-- A sound plan for what the definition says, where this bridge stands, or the refusal that it says.
abbrev pub PlansOf : Controlled → Result Plan EventFault → Result Course Refusal → Type 0
PlansOf b answer course = Plans (table b.history) b.control answer course

-- what carrying out the plan comes to
abbrev pub carried_out : Controlled → Plan → Course
carried_out b plan = planned (table b.history) b.control plan

-- Behind so many planned changes there is room for what the message makes, where it makes no more than it can.
abbrev pub HasRoomFor : Controlled → ℕ → Speaker → List ℕ → McastMsg → Type 0
HasRoomFor b count s bytes m =
    (r : Course) → Hears s b.control.ends r → length r.changes ≡ count → length (says s bytes m r).changes ≤ count + most m
    → length b.history + length (says s bytes m r).changes ≤ most_changes

-- There is none.
abbrev pub LacksRoomFor : Controlled → ℕ → Speaker → List ℕ → McastMsg → Type 0
LacksRoomFor b count s bytes m =
    (r : Course) → Hears s b.control.ends r → length r.changes ≡ count → most_changes < length b.history + length (says s bytes m r).changes

-- A course of which no message goes out was carried out, or refused.
abbrev pub CarriesQuietly : Controlled → Controlled → Result (Unit {0}) EventFault → Course → Type 0
CarriesQuietly old new result course = (lines : List Line) → CarriesOut old new lines lines result (Ok course)

-- the control frames of a reaction
abbrev pub ctl_of : Result Reacted EventFault → List Line
ctl_of (Ok r) = r.ctl.lines
ctl_of (Err why) = []
