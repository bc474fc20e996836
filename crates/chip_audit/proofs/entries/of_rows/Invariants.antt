use Rattle.std.proofs.Common.{◌≡◌, [], take}
use Rattle.chip_audit.proofs.Filling.{filled}
use Rattle.chip_audit.proofs.entries.of_rows.Given as goal

abbrev pub invariant-loop-row : goal.invariant-loop-row
invariant-loop-row l = l.entries.entries ≡ filled [] (take l.row-index l.rows)
