-- The table of a cut, and its count.
use Rattle.std.specs.Prelude.{◌≡◌, ℕ, ◌≤◌, List}
use Rattle.br_model.specs.declared.change.Change.{Change}
use Rattle.br_model.specs.declared.domains.Edition.{Edition}
use Rattle.br_model.specs.Table.Cut.{cut, deferred_count}
use Rattle.br_model.specs.Table.Table.{Table, table}

-- what contracts see of a walk
pub record Walked : Type 0 where
  pub table : Table
  pub count : ℕ

-- The table is that of the history's cut, of no more deferred changes than there are.
pub record IsWalk (edition : Edition) (history : List Change) (w : Walked) : Type 0 where
  pub table : w.table ≡ table (cut edition history w.count)
  pub applied : w.count ≤ deferred_count edition history
