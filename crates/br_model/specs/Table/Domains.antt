-- Ports and their domains, and the edition of the profile. Domain 0 is software, domains 1 to 4 are of switch chips.
-- Source: the kernel's switchdev.rst (which ports belong to one switch device); the numbers and editions are this profile's.
use Rattle.std.specs.Prelude.{ℕ, ◌+◌, ◌==◌, Bool, not, ◌||◌, List, [], ◌∷◌, map}
use Rattle.std.specs.List.{filter, list_any}
use Rattle.std.specs.declared.option.Option.{Option}
use Rattle.std.specs.declared.option.Option.TheVariants.{None, Some}
use Rattle.std.specs.Option.{option_eq}
use Rattle.std.specs.Ordering.{nat_cmp}
use Rattle.br_model.specs.declared.domains.Edition.{Edition}
use Rattle.br_model.specs.Data.Maps.{get}

pub record Domains : Type 0 where
  -- which changes reach a chip through the queue
  pub edition : Edition
  -- the domain of each declared port, ascending by port
  pub ports : List (ℕ × ℕ)

-- the port of the host itself
abbrev pub host : ℕ
host = 0

-- the last port
abbrev pub last_port : ℕ
last_port = 254

-- a set of ports, and a table by port, has a place for each number below this one
abbrev pub port_places : ℕ
port_places = 256

-- the domain of software ports
abbrev pub software : ℕ
software = 0

-- the domain that has a switch chip in any case
abbrev pub first_chip_domain : ℕ
first_chip_domain = 1

-- the last domain that a switch chip can have
abbrev pub last_chip : ℕ
last_chip = 4

abbrev pub domain_of : Domains → ℕ → Option ℕ
domain_of domains port = get nat_cmp domains.ports port

-- Where ports are declared on these domains, the domains of the switch chips that exist, ascending: the first one in any case,
-- another one where it is among them.
abbrev pub chips_among : List ℕ → List ℕ
chips_among declared = filter (λ d. d == first_chip_domain || list_any (λ e. e == d) declared) (1 ∷ 2 ∷ 3 ∷ 4 ∷ [])

abbrev pub chip_domains : Domains → List ℕ
chip_domains domains = chips_among (map (λ e. e.1) domains.ports)

-- whether there is a switch chip of this domain
abbrev pub has_chip : Domains → ℕ → Bool
has_chip domains domain = list_any (λ d. d == domain) (chip_domains domains)

-- whether two ports are in different domains
abbrev pub foreign : Domains → ℕ → ℕ → Bool
foreign domains p q = not (option_eq (λ x y. x == y) (domain_of domains p) (domain_of domains q))

-- the domains that a list with a place for each port tells, from port n on
abbrev pub entries_from : ℕ → List (Option ℕ) → List (ℕ × ℕ)
entries_from n [] = []
entries_from n (None ∷ places) = entries_from (n + 1) places
entries_from n (Some d ∷ places) = (n, d) ∷ entries_from (n + 1) places
