-- A reaction on its way: the table and the control state as they are by now, and what was done so far.
-- Source: this profile.
use Rattle.std.specs.Prelude.{ℕ, if◌then◌else◌, List, [], ◌∷◌, ◌++◌}
use Rattle.std.specs.List.{fold}
use Rattle.br_model.specs.declared.bpdu.BpduMsg.{BpduMsg}
use Rattle.br_model.specs.declared.change.Change.{Change}
use Rattle.br_model.specs.Control.Control.{Control, keeps_up}
use Rattle.br_model.specs.Table.Limits.{fits}
use Rattle.br_model.specs.Table.Table.{Table, apply}

pub record Course : Type 0 where
  -- the table after the changes so far
  pub table : Table
  pub control : Control
  -- in order
  pub changes : List Change
  -- the spanning tree's messages that go out, each by its port, in order
  pub messages : List (ℕ × BpduMsg)

-- before anything is done
abbrev pub from : Table → Control → Course
from t c = record { table = t; control = c; changes = []; messages = [] }

-- one change more; one that would pass a limit of the table is left out
abbrev pub makes : Course → Change → Course
makes r c =
    if fits r.table c
    then record r { table = apply r.table c; control = keeps_up r.control c; changes = r.changes ++ c ∷ [] }
    else r

-- these changes, one after another
abbrev pub makes_all : Course → List Change → Course
makes_all r changes = fold makes r changes
