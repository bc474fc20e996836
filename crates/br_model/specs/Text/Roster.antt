-- What a scenario has said before a line: its edition, the bridge's address, its declared ports, in the order of their lines, and
-- the place that it has reached.
-- Source: this profile.
use Rattle.std.specs.Prelude.{ℕ, ◌==◌, nat_lt, nat_le, Bool, not, ◌&&◌, ◌||◌, if◌then◌else◌, List, [], ◌∷◌, length, map, codes}
use Rattle.std.specs.List.{fold, list_any, list_all}
use Rattle.std.specs.Ordering.{nat_cmp}
use Rattle.std.specs.declared.option.Option.{Option}
use Rattle.std.specs.declared.option.Option.TheVariants.{None, Some}
use Rattle.std.specs.Str.{bytes_eq}
use Rattle.br_model.specs.declared.domains.Edition.{Edition}
use Rattle.br_model.specs.declared.domains.Edition.TheVariants.{One}
use Rattle.br_model.specs.declared.scenario.Place.{Place}
use Rattle.br_model.specs.declared.scenario.Place.TheVariants.{Opening}
use Rattle.br_model.specs.Table.Domains.{Domains, host, software, chips_among}
use Rattle.br_model.specs.Data.Maps.{put}
use Rattle.br_model.specs.Table.Setup.{first_own}
use Rattle.br_model.specs.Text.Words.{Word}

pub record Entry : Type 0 where
  pub name : Word
  pub port : ℕ
  pub dom : ℕ

pub record Roster : Type 0 where
  pub place : Place
  -- whether the command is `check`
  pub check : Bool
  pub edition : Edition
  -- the bridge's own address
  pub own : ℕ
  pub ports : List Entry

abbrev pub first_roster : Bool → Roster
first_roster check = record { place = Opening; check = check; edition = One; own = first_own; ports = [] }

abbrev pub has_number : List Entry → ℕ → Bool
has_number ports n = list_any (λ e. e.port == n) ports

-- the domains of the switch chips that exist where these ports are declared
abbrev pub chips_of : List Entry → List ℕ
chips_of ports = chips_among (map (λ (e : Entry). e.dom) ports)

-- whether there is a switch chip of this domain
abbrev pub is_chip : List Entry → ℕ → Bool
is_chip ports dom = list_any (λ d. d == dom) (chips_of ports)

abbrev pub port_named : List Entry → Word → Option ℕ
port_named [] name = None
port_named (e ∷ ports) name = if bytes_eq name e.name then Some e.port else port_named ports name

-- A-Z, a-z, 0-9, `.`, `-` or `_`
abbrev pub is_name_byte : ℕ → Bool
is_name_byte c =
    (nat_le 65 c && nat_le c 90) || ((nat_le 97 c && nat_le c 122) || ((nat_le 48 c && nat_le c 57) || (c == 46 || (c == 45 || c == 95))))

abbrev pub host_name : Word
host_name = codes "host"

-- the bytes of the longest name
abbrev pub longest_name : ℕ
longest_name = 15

-- 1 to 15 such bytes; `host` is taken
abbrev pub is_name : Word → Bool
is_name word = nat_lt 0 (length word) && (nat_le (length word) longest_name && (list_all is_name_byte word && not (bytes_eq word host_name)))

-- the edition, the domain of each declared port, and the software's of the host
abbrev pub domains_of : Edition → List Entry → Domains
domains_of edition ports = record { edition = edition; ports = fold (λ m e. put nat_cmp m e.port e.dom) ((host, software) ∷ []) ports }
