-- A chip and software after the same changes.
use Rattle.std.specs.Prelude.{◌≤◌, IsTrue, length}
use Rattle.br_model.specs.Table.Domains.{Domains}
use Rattle.br_model.specs.Table.Limits.{most_addresses}
use Rattle.br_model.specs.Data.Maps.{pair_cmp, is_ascending}
use Rattle.br_model.specs.Table.Table.{Table}
use Rattle.chip_driver.specs.Drives.{Driven, Drives}

-- The chip's driver stands for the table that software has, which holds its limits.
pub record AreAlike (domains : Domains) (driver : Driven) (t : Table) : Type 0 where
  pub stands : Drives domains driver t
  pub ascend : IsTrue (is_ascending pair_cmp t.addr)
  pub few : length t.addr ≤ most_addresses
