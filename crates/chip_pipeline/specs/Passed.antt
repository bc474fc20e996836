-- What a chip decides of a frame at one of its ports, in the words of the bridge's table.
-- Source: the kernel's switchdev.rst (a chip forwards among its own ports, learns and reports what it learned, and tells which of
-- its entries are in use); what is reported and what counts as use is this profile's.
use Rattle.std.specs.Prelude.{ℕ, ◌≡◌, true, false, not, List, []}
use Rattle.std.specs.List.{filter}
use Rattle.std.specs.declared.option.Option.{Option}
use Rattle.br_model.specs.declared.frame.Class.{Class}
use Rattle.br_model.specs.declared.frame.Class.TheVariants.{Drop, Trap, Copy, Forward}
use Rattle.br_model.specs.declared.frame.Head.{Head}
use Rattle.br_model.specs.declared.frame.McastMsg.{McastMsg}
use Rattle.br_model.specs.Forward.Admission.{admit}
use Rattle.br_model.specs.Plane.Chip.{report, hit_of}
use Rattle.br_model.specs.Forward.Class.{class}
use Rattle.br_model.specs.Table.Domains.{Domains, foreign, host}
use Rattle.br_model.specs.Forward.Untagged.{untagged_among}
use Rattle.br_model.specs.Control.Learning.{Address}
use Rattle.br_model.specs.Forward.Leave.{ports_out}
use Rattle.br_model.specs.Table.Table.{Table}
use Rattle.chip_tables.specs.Rows.{Rows}
use Rattle.chip_pipeline.specs.declared.answer.Sent.{Sent}
use Rattle.chip_tables.specs.Stands.{Stands, is_own}

-- The rows of the chip of the domain stand for the table, and the port is one of the chip's, which the host isn't.
pub record AtChip (domains : Domains) (dom : ℕ) (rows : Rows) (t : Table) (port : ℕ) : Type 0 where
  pub stands : Stands domains dom rows t
  pub own : is_own domains dom port ≡ true
  pub outside : is_own domains dom host ≡ false

-- what the chip decides
pub record Passed : Type 0 where
  pub class : Class
  pub vid : Option ℕ
  pub ports : List ℕ
  pub untagged : List ℕ
  pub report : Option Address
  pub hit : Option Address

-- the ports by which the chip sends a frame of this class, which leaves one bridge by these ports
abbrev pub chip_ports_by : Class → Domains → ℕ → List ℕ → List ℕ
chip_ports_by Drop domains port out = []
chip_ports_by Trap domains port out = []
chip_ports_by Copy domains port out = filter (λ q. not (foreign domains port q)) out
chip_ports_by Forward domains port out = filter (λ q. not (foreign domains port q)) out

abbrev pub chip_ports : Domains → Table → ℕ → Head → McastMsg → List ℕ
chip_ports domains t port head msg = chip_ports_by (class domains t port head msg) domains port (ports_out t port head msg)

-- What the chip does with a frame, but for its source, is what the table says.
pub record IsSent (domains : Domains) (t : Table) (port : ℕ) (head : Head) (msg : McastMsg) (sent : Sent) : Type 0 where
  pub class : sent.class ≡ class domains t port head msg
  pub vid : sent.vid ≡ admit t port head
  pub ports : sent.ports ≡ chip_ports domains t port head msg
  pub untagged : sent.untagged ≡ untagged_among t sent.vid sent.ports

-- What the chip decides of a frame is what the table says.
pub record IsPass (domains : Domains) (t : Table) (port : ℕ) (head : Head) (msg : McastMsg) (pass : Passed) : Type 0 where
  pub class : pass.class ≡ class domains t port head msg
  pub vid : pass.vid ≡ admit t port head
  pub ports : pass.ports ≡ chip_ports domains t port head msg
  pub untagged : pass.untagged ≡ untagged_among t pass.vid pass.ports
  pub report : pass.report ≡ report t port head
  pub hit : pass.hit ≡ hit_of t port head
