use Rattle.std.proofs.Common.{◌≡◌, take}
use Rattle.br_model.specs.Table.Table.{table}
use Rattle.plane_core.proofs.sides.decide_anew.Given as goal

abbrev pub invariant-loop-i : goal.invariant-loop-i
invariant-loop-i l = l.tables ≡ table (take l.i l.changes)
