use Rattle.std.proofs.Common.{◌≡◌, fold, take}
use Rattle.table_publish.specs.Content.{taken}
use Rattle.table_publish.proofs.content.PublishedAbsorbOperation.absorb_first.Given as goal

abbrev pub invariant-loop-i : goal.invariant-loop-i
invariant-loop-i l = l.self ≡ record l.initial.self { tables = fold taken l.initial.self.tables (take l.i l.operation.changes.list) }
