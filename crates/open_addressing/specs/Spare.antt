-- Which cells are free: those from one on, which were never used, and those that were left.
use Rattle.std.specs.Prelude.{◌≡◌, ◌≢◌, ℕ, ◌+◌, ◌<◌, ◌≤◌, List, length, slice_index}

-- Of cells of which `at` is the key in each, 0 for none, and of which so many are used.
pub record AreSpare (at : ℕ → ℕ) (used room fresh : ℕ) (free : List ℕ) : Type 0 where
  pub within : fresh ≤ room
  pub small : room < 65535
  pub counted : used + length free ≡ fresh
  pub unused : (i : ℕ) → fresh ≤ i → at i ≡ 0
  pub below : (j : ℕ) → j < length free → slice_index free j < fresh
  pub empty : (j : ℕ) → j < length free → at (slice_index free j) ≡ 0
  pub apart : (j k : ℕ) → j < length free → k < length free → slice_index free j ≡ slice_index free k → j ≡ k

-- A free cell that is used from now on, and what is free then.
pub record Uses (at : ℕ → ℕ) (used room cell fresh : ℕ) (free : List ℕ) : Type 0 where
  pub within : cell < room
  pub empty : at cell ≡ 0
  pub left : (at' : ℕ → ℕ) → at' cell ≢ 0 → ((i : ℕ) → i ≢ cell → at' i ≡ at i) → AreSpare at' (used + 1) room fresh free
