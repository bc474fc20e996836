use Rattle.std.proofs.Common.{◌≡◌, filter_map, take}
use Rattle.chip_audit.specs.Marks.{row_at}
use Rattle.chip_audit.proofs.rows.rows_of.Given as goal

abbrev pub invariant-loop-key : goal.invariant-loop-key
invariant-loop-key l = l.rows.items ≡ filter_map (row_at l.tables) (take l.key-index l.keys)
