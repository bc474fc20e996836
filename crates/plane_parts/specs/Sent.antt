-- The lines of a frame that is sent.
use Rattle.std.specs.Prelude.{ℕ, if◌then◌else◌, List, [], map, not}
use Rattle.std.specs.List.{filter}
use Rattle.std.specs.declared.option.Option.{Option}
use Rattle.std.specs.declared.option.Option.TheVariants.{None, Some}
use Rattle.br_model.specs.declared.frame.Class.{Class}
use Rattle.br_model.specs.declared.frame.Class.TheVariants.{Drop, Trap, Copy, Forward}
use Rattle.br_model.specs.declared.frame.Head.{Head}
use Rattle.br_model.specs.Table.Domains.{Domains, foreign}
use Rattle.br_model.specs.declared.transcript.Line.{Line}
use Rattle.br_model.specs.declared.transcript.Line.TheVariants.{Tx}
use Rattle.br_model.specs.Wire.Frames.{dressed}
use Rattle.port_sets.specs.Numbers.{has_number}
use Rattle.plane_parts.specs.declared.sending.Egress.{Egress}

-- the tag of the VLAN, or none at the ports that its frames leave untagged
abbrev pub tag_by : List ℕ → ℕ → ℕ → Option ℕ
tag_by untagged vid port = if has_number untagged port then None else Some vid

-- the line of a frame of the VLAN that leaves the port
abbrev pub line_at : List ℕ → ℕ → List ℕ → Head → ℕ → ℕ → Line
line_at untagged id bytes head vid port = Tx id port (dressed bytes head (tag_by untagged vid port))

abbrev pub lines_in : ℕ → List ℕ → Head → Option ℕ → List ℕ → List ℕ → List Line
lines_in id bytes head None ports untagged = []
lines_in id bytes head (Some vid) ports untagged = map (line_at untagged id bytes head vid) ports

-- a line for each port by which the frame leaves
abbrev pub lines_of : ℕ → List ℕ → Head → Egress → List Line
lines_of id bytes head out = lines_in id bytes head out.vid out.ports out.untagged

-- the ports by which the chip of the port's domain sends a frame of this class, which leaves one bridge by these
abbrev pub share_of : Domains → ℕ → Class → List ℕ → List ℕ
share_of domains port Drop ports = []
share_of domains port Trap ports = []
share_of domains port Copy ports = filter (λ q. not (foreign domains port q)) ports
share_of domains port Forward ports = filter (λ q. not (foreign domains port q)) ports
