use Rattle.std.proofs.Common.{◌≡◌, take}
use Rattle.std.specs.List.{filter}
use Rattle.chip_audit.specs.Marks.{is_gone}
use Rattle.chip_audit.proofs.entries.gone.Given as goal

abbrev pub invariant-loop-row : goal.invariant-loop-row
invariant-loop-row l = l.gone.items ≡ filter (is_gone l.entries.entries) (take l.row-index l.rows)
