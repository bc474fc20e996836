-- The table of the first changes of a history.
use Rattle.std.specs.Prelude.{◌≡◌, ℕ, ◌≤◌, List, length, take}
use Rattle.br_model.specs.declared.change.Change.{Change}
use Rattle.br_model.specs.Table.Table.{Table, table}

-- a table, and of how many changes it is
pub record PointState : Type 0 where
  pub table : Table
  pub at : ℕ

-- it is that of so many first changes of the history
pub record IsPoint (history : List Change) (p : PointState) : Type 0 where
  pub table : p.table ≡ table (take p.at history)
  pub within : p.at ≤ length history

abbrev pub point_at : List Change → ℕ → PointState
point_at history n = record { table = table (take n history); at = n }
