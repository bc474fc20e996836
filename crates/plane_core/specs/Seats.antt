-- What a seat knows after it was told.
use Rattle.std.specs.Prelude.{◌≡◌, ◌≤◌}
use Rattle.table_publish.specs.Board.{Known}
use Rattle.table_publish.specs.Object.{Object, Begins, IsPublished}

-- The seat has looked up: it knows no less than before.
pub record Looks (old new : Known) : Type 0 where
  pub board : new.board ≡ old.board
  pub begins : Begins new.object old.object
  pub misses : old.misses ≤ new.misses
  pub published : IsPublished new.object

-- The seat was told of this object, and may have looked up since. It knows that object, and no less than before.
pub record IsTold (old new : Known) (object : Object) : Type 0 where
  pub board : new.board ≡ old.board
  pub told : Begins new.object object
  pub kept : Begins new.object old.object
  pub misses : old.misses ≤ new.misses
  pub published : IsPublished new.object
