-- Where a bridge stands: its table and its control state.
use Rattle.std.specs.Prelude.{ℕ, List}
use Rattle.br_model.specs.declared.bpdu.BpduMsg.{BpduMsg}
use Rattle.br_model.specs.declared.change.Change.{Change}
use Rattle.br_model.specs.Control.Control.{Control, ends_with, keeps_up}
use Rattle.br_model.specs.Control.Course.{Course, from}
use Rattle.br_model.specs.Table.Table.{Table, with_addresses}
use Rattle.bridge_state.specs.declared.state.Clock.{Clock}
use Rattle.bridge_state.specs.declared.state.State.{State}

abbrev pub table_of : State → Table
table_of s = with_addresses s.ports s.addresses.addr

abbrev pub control_of : State → Control
control_of s = record { now = s.clock.now; ageing = s.clock.ageing; updated = s.addresses.updated; ends = s.groups; tree = s.tree.value }

-- before anything is done
abbrev pub course_at : State → Course
course_at s = from (table_of s) (control_of s)

-- the course that has come so far, by these changes and messages
abbrev pub course_of : State → List Change → List (ℕ × BpduMsg) → Course
course_of s changes messages = record { table = table_of s; control = control_of s; changes = changes; messages = messages }

-- the control state after a change that moves no end
abbrev pub places : Control → Change → Control
places c d = ends_with (keeps_up c d) c.ends

-- the control state at this moment, with this ageing time
abbrev pub clocked : Clock → Control → Control
clocked clock c = record c { now = clock.now; ageing = clock.ageing }
