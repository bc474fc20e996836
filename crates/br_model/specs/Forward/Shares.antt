-- The two shares of a frame: what a chip sends of it, and what software sends.
-- Source: the kernel's switchdev.rst and nbp_switchdev_allowed_egress (software doesn't send to the marked domain).
use Rattle.std.specs.Prelude.{ℕ, not, List, []}
use Rattle.std.specs.List.{filter}
use Rattle.std.specs.declared.option.Option.{Option}
use Rattle.std.specs.declared.option.Option.TheVariants.{None}
use Rattle.br_model.specs.declared.frame.Class.{Class}
use Rattle.br_model.specs.declared.frame.Class.TheVariants.{Drop, Trap, Copy, Forward}
use Rattle.br_model.specs.declared.frame.Head.{Head}
use Rattle.br_model.specs.Forward.Class.{class}
use Rattle.br_model.specs.Table.DomainPorts.{is_marked}
use Rattle.br_model.specs.Table.Domains.{Domains, domain_of, foreign}
use Rattle.br_model.specs.Forward.Leave.{leave}
use Rattle.br_model.specs.Wire.Messages.{message}
use Rattle.br_model.specs.Table.Table.{Table}

-- at the ports of the port's own domain
abbrev pub within : Domains → ℕ → List (ℕ × List ℕ) → List (ℕ × List ℕ)
within domains port out = filter (λ x. not (foreign domains port x.0)) out

-- what the chip sends of a frame of this class, which leaves one bridge so
abbrev pub chip_out_by : Class → Domains → ℕ → List (ℕ × List ℕ) → List (ℕ × List ℕ)
chip_out_by Drop domains port out = []
chip_out_by Trap domains port out = []
chip_out_by Copy domains port out = within domains port out
chip_out_by Forward domains port out = within domains port out

abbrev pub chip_out : Domains → Table → ℕ → List ℕ → Head → List (ℕ × List ℕ)
chip_out domains t port bytes head =
    chip_out_by (class domains t port head (message bytes head)) domains port (leave t port bytes head)

-- the domain that a frame of this class at the port is marked with, on its way to the processor
abbrev pub mark_of : Class → Domains → ℕ → Option ℕ
mark_of Drop domains port = None
mark_of Trap domains port = None
mark_of Copy domains port = domain_of domains port
mark_of Forward domains port = None

-- without the ports of the marked domain
abbrev pub remaining : Domains → Option ℕ → List (ℕ × List ℕ) → List (ℕ × List ℕ)
remaining domains mark out = filter (λ x. not (is_marked domains mark x.0)) out

abbrev pub soft_out : Domains → Table → ℕ → List ℕ → Head → Option ℕ → List (ℕ × List ℕ)
soft_out domains t port bytes head mark = remaining domains mark (leave t port bytes head)
