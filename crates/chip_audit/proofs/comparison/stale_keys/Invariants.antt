use Rattle.std.proofs.Common.{◌≡◌, map, take}
use Rattle.chip_audit.proofs.comparison.stale_keys.Given as goal

abbrev pub invariant-loop-row : goal.invariant-loop-row
invariant-loop-row l = l.keys.items ≡ map (λ e. e.0) (take l.row-index l.rows)
