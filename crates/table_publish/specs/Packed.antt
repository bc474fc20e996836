-- Packed changes.
use Rattle.std.specs.Prelude.{ℕ, List}
use Rattle.br_model.specs.declared.change.Change.{Change}

-- the changes, and how many there is room for
pub record Listed : Type 0 where
  pub list : List Change
  pub room : ℕ
