-- What an append that stopped in its midst left.
use Rattle.std.specs.Prelude.{ℕ, List, ◌++◌, ◌≡◌}

-- the old text is a prefix of the new one
pub record Extends (old new : List ℕ) : Type 0 where
  pub rest : List ℕ
  pub is : new ≡ old ++ rest
