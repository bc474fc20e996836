use Rattle.std.proofs.Common.{ap, set, ◌∙◌, arith}
use Rattle.chip_tables.proofs.GroupRows.{within-key, groups-clear}
use Rattle.chip_tables.proofs.groups.GroupCellsCellsGroupKeyFanRow.clear.Goals as goal

pub put-requires : goal.put-requires
put-requires c = let w = within-key c.args.self.now.keys c.args.self.now.rows c.args.i c.requires in (omega arith, (omega arith, omega (arith, w, c.args.self.now.sized_keys)))

pub returns : goal.returns
returns c = groups-clear c.args.self.now.keys c.put.new.self c.args.self.now.rows c.args.i (c.put.ensures.value ∙ ap (set c.args.self.now.keys c.args.i) c.zero.ensures)
