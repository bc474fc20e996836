-- What follows from the spanning tree: states as changes, messages as lines.
use Rattle.std.specs.Prelude.{ℕ, ◌+◌, ◌*◌, ◌≤◌, List, [], ◌∷◌}
use Rattle.std.specs.declared.option.Option.{Option}
use Rattle.std.specs.declared.option.Option.TheVariants.{None, Some}
use Rattle.br_model.specs.declared.bpdu.BpduMsg.{BpduMsg}
use Rattle.br_model.specs.declared.change.Change.{Change}
use Rattle.br_model.specs.declared.change.Change.TheVariants.{SetState}
use Rattle.br_model.specs.declared.transcript.Line.{Line}
use Rattle.br_model.specs.Plane.World.{control_line}
use Rattle.br_model.specs.Tree.Tree.{Tree, state_at}
use Rattle.br_model.specs.Tree.Sending.{Acted}
use Rattle.br_model.specs.Tree.Step.{message}
use Rattle.br_model.specs.Table.Domains.{port_places}
use Rattle.stp_core.specs.declared.tree.TreeOut.{TreeOut}
use Rattle.transcript_lines.specs.Rows.{Listed}

abbrev pub state_change : Tree → ℕ → Change
state_change t port = SetState port (state_at t port)

-- the line of the message that went out last on the port, where one did
abbrev pub line_of : ℕ → ℕ → Option BpduMsg → List Line
line_of own port None = []
line_of own port (Some m) = control_line own (port, m) ∷ []

abbrev pub config_lines : ℕ → Tree → ℕ → List Line
config_lines own t port = line_of own port (message t port)

-- room for the frames that an event sends at most, and for a row behind them
abbrev pub HasFrameRoom : Listed → Type 0
HasFrameRoom lines = (port_places + 2 ≤ lines.rows) × (60 * (port_places + 1) ≤ lines.bytes)

abbrev pub acted_by : Tree → TreeOut → Acted
acted_by t out = record { tree = t; config = out.config; tcn = out.tcn }
