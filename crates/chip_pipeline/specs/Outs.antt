-- What the chip does with a frame that its port admitted in a VLAN and that snooping doesn't catch.
use Rattle.std.specs.Prelude.{ℕ, ◌≡◌, if◌then◌else◌}
use Rattle.br_model.specs.declared.frame.Class.TheVariants.{Trap}
use Rattle.br_model.specs.declared.frame.Head.{Head}
use Rattle.br_model.specs.declared.frame.McastMsg.{McastMsg}
use Rattle.br_model.specs.Forward.Class.{class_by}
use Rattle.br_model.specs.Table.Domains.{Domains}
use Rattle.br_model.specs.Forward.Leave.{egress_ports}
use Rattle.br_model.specs.Table.Table.{Table}
use Rattle.chip_pipeline.specs.declared.egress.Out.{Out}
use Rattle.chip_pipeline.specs.Passed.{chip_ports_by}
use Rattle.chip_pipeline.specs.Ways.{leaves_chip}

-- It is what the table says.
pub record IsOut (domains : Domains) (t : Table) (port vid : ℕ) (head : Head) (msg : McastMsg) (out : Out) : Type 0 where
  pub class : out.class ≡ (if leaves_chip domains t port vid head then Trap else class_by domains port (egress_ports t port vid head msg))
  pub ports : out.ports ≡ chip_ports_by out.class domains port (egress_ports t port vid head msg)
