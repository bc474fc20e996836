use Rattle.chip_tables.proofs.GroupRows.{groups-made}
use Rattle.chip_tables.proofs.groups.GroupCells.make.Goals as goal

pub returns : goal.returns
returns c = groups-made 1024 _ _ c.in_ok-keys.ensures c.in_ok-rows.ensures
