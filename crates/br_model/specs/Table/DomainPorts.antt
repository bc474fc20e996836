-- The ports of a domain, and the software's share of a frame that a chip has forwarded in its own domain.
-- Source: the kernel's nbp_switchdev_allowed_egress (software doesn't send to the domain that the frame is marked with).
use Rattle.std.specs.Prelude.{ℕ, ◌==◌, Bool, false, List}
use Rattle.std.specs.declared.option.Option.{Option}
use Rattle.std.specs.declared.option.Option.TheVariants.{None, Some}
use Rattle.std.specs.Option.{option_eq}
use Rattle.port_sets.specs.Numbers.{numbers_below}
use Rattle.br_model.specs.Table.Domains.{Domains, domain_of, port_places}

-- whether the port is in the domain
abbrev pub is_in_domain : Domains → ℕ → ℕ → Bool
is_in_domain domains domain port = option_eq (λ x y. x == y) (domain_of domains port) (Some domain)

-- whether the port is in the domain that a frame is marked with, if it has a mark
abbrev pub is_marked : Domains → Option ℕ → ℕ → Bool
is_marked domains None port = false
is_marked domains (Some mark) port = is_in_domain domains mark port

-- the ports of the domain, ascending
abbrev pub ports_in : Domains → ℕ → List ℕ
ports_in domains domain = numbers_below port_places (is_in_domain domains domain)
