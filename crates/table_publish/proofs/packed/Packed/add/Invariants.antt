use Rattle.std.proofs.Common.{◌≡◌, ◌++◌, take}
use Rattle.table_publish.proofs.packed.Packed.add.Given as goal

-- the first ones are added
abbrev pub invariant-loop-change : goal.invariant-loop-change
invariant-loop-change l = l.self ≡ record l.initial.self { list = l.initial.self.list ++ take l.change-index l.changes }
