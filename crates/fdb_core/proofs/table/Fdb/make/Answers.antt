use Rattle.std.proofs.Common.{ap}
use Rattle.open_addressing.specs.Finite as numbers
use Rattle.fdb_core.specs.declared.entries.Entry.{Entry}
use Rattle.fdb_core.proofs.Kept.{kept-none}
use Rattle.fdb_core.proofs.table.Fdb.make.Goals as goal

pub invariant_of-result : goal.invariant_of-result
invariant_of-result c = kept-none _ _ _ _ _ (ap (λ (t : numbers.Table Entry). t.entries) c.in_ok-make.ensures) c.none.ensures c.in_ok-make-2.ensures
