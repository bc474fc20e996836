-- When a driver stands for a table: the rows of its chip do, and it keeps what they don't tell.
use Rattle.std.specs.Prelude.{◌≡◌, ℕ, ◌<◌, ◌≤◌, List, IsTrue, length, Some}
use Rattle.std.specs.Ordering.{nat_cmp}
use Rattle.br_model.specs.declared.change.Asks.{Asks}
use Rattle.br_model.specs.declared.change.Asks.TheVariants.{Nothing, State, GroupRoom, AddressRoom}
use Rattle.br_model.specs.declared.change.Change.{Change}
use Rattle.br_model.specs.Table.Domains.{Domains, port_places}
use Rattle.br_model.specs.Table.GroupPairs.{has_room}
use Rattle.br_model.specs.Table.Groups.{Membership}
use Rattle.br_model.specs.Data.Maps.{has}
use Rattle.br_model.specs.Table.Change.{asks}
use Rattle.br_model.specs.Table.Limits.{most_addresses}
use Rattle.br_model.specs.Table.Table.{Table}
use Rattle.port_sets.specs.Numbers.{has_number}
use Rattle.chip_tables.specs.declared.rows.AddressRow.{AddressRow}
use Rattle.chip_tables.specs.Rows.{Rows, addresses_with}
use Rattle.chip_tables.specs.Stands.{Stands}
use Rattle.chip_driver.specs.declared.kept.Kept.{Kept}

-- what contracts see of a driver
pub record Driven : Type 0 where
  -- the domain of the chip
  pub dom : ℕ
  -- how many deferred changes it has applied
  pub count : ℕ
  pub rows : Rows
  -- the ports behind which a multicast router is
  pub routers : List ℕ
  -- the members of groups
  pub groups : List Membership

-- what they see of what is kept for the chip of the domain
abbrev pub driven : ℕ → ℕ → Kept → Driven
driven dom count kept = record { dom = dom; count = count; rows = kept.tables; routers = kept.shadow.routers; groups = kept.groups }

abbrev pub KeepsRouters : List ℕ → Table → Type 0
KeepsRouters routers t = (q : ℕ) → q < port_places → has_number routers q ≡ has nat_cmp t.routers q

pub record Drives (domains : Domains) (driver : Driven) (t : Table) : Type 0 where
  pub rows : Stands domains driver.dom driver.rows t
  pub routers : KeepsRouters driver.routers t
  pub groups : driver.groups ≡ t.groups

-- The chip has what is asked for: a state is one of Linux's, and there is room for a group or an address, whatever its row.
abbrev pub Grants : Driven → Asks → Type 0
Grants driver Nothing = Unit {0}
Grants driver (State state) = state ≤ 4
Grants driver (GroupRoom vid group) = IsTrue (has_room driver.groups vid group)
Grants driver (AddressRoom vid mac) =
    (row : AddressRow) → length (addresses_with driver.rows vid mac (Some row)) ≤ most_addresses

-- what is asked of a change
abbrev pub IsTaken : Driven → Change → Type 0
IsTaken driver c = Grants driver (asks c)
