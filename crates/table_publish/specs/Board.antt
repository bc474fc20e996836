-- What contracts see of a board and its seats.
use Rattle.std.specs.Prelude.{◌≡◌, ℕ, ◌<◌, ◌⊎◌, List, ◌++◌}
use Rattle.br_model.specs.declared.change.Change.{Change}
use Rattle.table_publish.specs.Object.{Whose, Object, first_object}

-- which board it is, what it has published, and what it has not yet
pub record Shelf : Type 0 where
  pub board : Whose
  pub object : Object
  pub pending : List Change

-- all changes, published or not
abbrev pub all_of : Shelf → List Change
all_of s = s.object.changes ++ s.pending

-- the seats of one board that are left
pub record Row : Type 0 where
  pub board : Whose
  pub left : ℕ

-- which board a seat is of, the published object that it knows, and how often it got no reading
pub record Known : Type 0 where
  pub board : Whose
  pub object : Object
  pub misses : ℕ

-- a seat that has seen nothing
abbrev pub newcomer : Whose → Known
newcomer b = record { board = b; object = first_object; misses = 0 }

-- a count rose, or stands at its last value
abbrev pub Rises : ℕ → ℕ → Type 0
Rises old new = (old < new) ⊎ ((old ≡ 18446744073709551615) × (new ≡ old))
