use Rattle.std.proofs.Common.{◌≡◌, take}
use Rattle.br_model.specs.Table.Table.{table}
use Rattle.check_world.proofs.point.apply_between.Given as goal

abbrev pub invariant-loop-place : goal.invariant-loop-place
invariant-loop-place l = l.tables ≡ table (take l.place l.history)
