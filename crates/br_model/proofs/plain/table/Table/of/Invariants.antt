use Rattle.std.proofs.Common.{◌≡◌, take}
use Rattle.std.specs.List.{fold}
use Rattle.br_model.specs.Table.Table.{start, apply}
use Rattle.br_model.proofs.plain.table.Table.of.Given as goal

abbrev pub invariant-loop-change : goal.invariant-loop-change
invariant-loop-change l = l.table ≡ fold apply start (take l.change-index l.history)
