use Rattle.std.proofs.Common.{◌≡◌, ◌++◌, take, string_bytes}
use Rattle.std.specs.List.{flat_map}
use Rattle.chip_audit.specs.Lines.{stale_line}
use Rattle.chip_audit.proofs.lines.append_stale_ones.Given as goal

abbrev pub invariant-loop-row : goal.invariant-loop-row
invariant-loop-row l = string_bytes l.to ≡ string_bytes l.fn.to ++ flat_map (stale_line l.roster.ports) (take l.row-index l.rows)
