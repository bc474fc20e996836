use Rattle.std.proofs.Common.{arith}
use Rattle.chip_tables.specs.GroupCells.{number_of}
use Rattle.chip_tables.proofs.GroupRows.{within-key, within-row, groups-put}
use Rattle.chip_tables.proofs.groups.GroupCellsCellsGroupKeyFanRow.put.Goals as goal

pub put-requires : goal.put-requires
put-requires c = let w = within-key c.args.self.now.keys c.args.self.now.rows c.args.i c.requires.within in (omega arith, (omega arith, omega (arith, w, c.args.self.now.sized_keys)))

pub put-requires-2 : goal.put-requires-2
put-requires-2 c = let v = within-row c.args.self.now.keys c.args.self.now.rows c.args.i c.requires.within in (omega arith, (omega arith, omega (arith, v, c.args.self.now.sized_rows)))

pub returns : goal.returns
returns c =
    groups-put c.args.self.now.keys c.put.new.self c.args.self.now.rows c.put-2.new.self c.args.i c.pack_group_key.result c.pack_fan.result
    (number_of c.args.key.now) c.args.value c.put.ensures.value c.put-2.ensures.value c.pack_group_key.ensures c.pack_fan.ensures
