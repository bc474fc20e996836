-- Numbers in slots by blocks of 64, of which only those that were written have room.
use Rattle.std.specs.Prelude.{◌≡◌, ◌≢◌, ℕ, ◌+◌, ◌*◌, ◌/◌, ◌%◌, ◌<◌, ◌≤◌, ◌==◌, Bool, not, List, length, map, slice_index, slice_index_or, count_by}
use Rattle.std.specs.List.{range_with_len}

-- the place of a block that was never written
abbrev pub nowhere : ℕ
nowhere = 65535

-- where a block stands among those that were written
abbrev pub place_of : List ℕ → ℕ → ℕ
place_of places block = slice_index_or places block nowhere

abbrev pub is_laid : ℕ → Bool
is_laid place = not (place == nowhere)

-- what a slot holds: 0 where nothing stands
abbrev pub slot_at : List ℕ → List ℕ → ℕ → ℕ
slot_at places laid s = slice_index laid (place_of places (s / 64) * 64 + s % 64)

unfoldable pub slots_of : ℕ → List ℕ → List ℕ → List ℕ
slots_of n places laid = map (slot_at places laid) (range_with_len 0 n)

-- so many blocks have places, each its own
pub record IsLaid (places : List ℕ) (used : ℕ) (laid : List ℕ) : Type 0 where
  pub few : length places < nowhere
  pub counted : count_by is_laid places ≡ used
  pub within : (b : ℕ) → place_of places b ≢ nowhere → place_of places b < used
  pub apart : (a b : ℕ) → place_of places a ≢ nowhere → place_of places a ≡ place_of places b → a ≡ b
  pub short : length laid ≤ used * 64
