-- When a driver's rows are those that it makes of what it keeps, and it keeps what they say.
use Rattle.std.specs.Prelude.{◌≡◌, false}
use Rattle.br_model.specs.Table.Domains.{host}
use Rattle.port_sets.specs.Numbers.{has_number}
use Rattle.chip_tables.specs.Rows.{Rows}
use Rattle.chip_driver.specs.declared.kept.Kept.{Kept}
use Rattle.chip_driver.specs.GroupRows.{GroupsFollow}
use Rattle.chip_driver.specs.Settled.{Settled}

pub record IsKept (kept : Kept) : Type 0 where
  -- the host isn't on the chip
  pub elsewhere : has_number kept.shadow.own host ≡ false
  pub settled : Settled kept.shadow kept.joined kept.tables
  pub follow : GroupsFollow kept.shadow kept.groups kept.tables

-- rows of floods, of routers and of groups may differ
abbrev pub IsRemade : Rows → Rows → Type 0
IsRemade old new =
    new ≡ record old { unicast = new.unicast; mcast = new.mcast; bcast = new.bcast; routers = new.routers; groups = new.groups }
