-- The ports by which a chip sends a frame are its share.
use Rattle.std.proofs.Common.{◌≡◌, ℕ, List, refl}
use Rattle.br_model.specs.declared.frame.Class.{Class}
use Rattle.br_model.specs.declared.frame.Class.TheVariants.{Drop, Trap, Copy, Forward}
use Rattle.br_model.specs.declared.frame.Head.{Head}
use Rattle.br_model.specs.Forward.Class.{class}
use Rattle.br_model.specs.Forward.Leave.{ports_out}
use Rattle.br_model.specs.Table.Domains.{Domains}
use Rattle.br_model.specs.Table.Table.{Table}
use Rattle.br_model.specs.Wire.Messages.{message}
use Rattle.chip_pipeline.specs.Passed.{chip_ports, chip_ports_by}
use Rattle.plane_parts.specs.Sent.{share_of}

by_class : (domains : Domains) (port : ℕ) (c : Class) (ports : List ℕ) → chip_ports_by c domains port ports ≡ share_of domains port c ports
by_class domains port Drop ports = refl
by_class domains port Trap ports = refl
by_class domains port Copy ports = refl
by_class domains port Forward ports = refl

pub is_share : (domains : Domains) (t : Table) (port : ℕ) (head : Head) (bytes : List ℕ)
    → chip_ports domains t port head (message bytes head) ≡ share_of domains port (class domains t port head (message bytes head)) (ports_out t port head (message bytes head))
is_share domains t port head bytes = by_class domains port (class domains t port head (message bytes head)) (ports_out t port head (message bytes head))
