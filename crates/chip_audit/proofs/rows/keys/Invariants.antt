use Rattle.std.proofs.Common.{◌≡◌, filter_map, take}
use Rattle.chip_audit.proofs.rows.keys.Given as goal

abbrev pub invariant-loop-i : goal.invariant-loop-i
invariant-loop-i l = l.keys.items ≡ filter_map (λ place. place) (take l.i l.tables.places)
