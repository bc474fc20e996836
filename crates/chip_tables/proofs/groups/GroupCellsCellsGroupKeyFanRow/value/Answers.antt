use Rattle.std.proofs.Common.{Some, ap, sym, ◌∙◌, arith}
use Rattle.chip_tables.proofs.GroupRows.{within-row, group-value-at}
use Rattle.chip_tables.proofs.groups.GroupCellsCellsGroupKeyFanRow.value.Goals as goal

pub at-requires : goal.at-requires
at-requires c = let v = within-row c.args.self.now.keys c.args.self.now.rows c.args.i c.requires.within in (omega arith, (omega arith, omega (arith, v, c.args.self.now.sized_rows)))

pub returns : goal.returns
returns c = group-value-at c.args.self.now.keys c.args.self.now.rows c.args.i c.at.result.now c.requires.within c.at.ensures.value c.requires.used ∙ ap Some (sym c.fan_row.ensures)
