-- What contracts see of the two ends of a queue.
-- Source: this profile.
use Rattle.std.specs.Prelude.{◌≡◌, List, [], ◌∷◌}
use Rattle.atomic_table.specs.Seated.{TableId}
use Rattle.br_model.specs.declared.change.Update.{Update}
use Rattle.deferred_queue.specs.declared.tally.Event.{Event}

-- the posting end: which queue it is of, by its two tables, and all that was posted, the oldest first
pub record Posting : Type 0 where
  pub queue : TableId × TableId
  pub posted : List Update

-- the taking end: which queue it is of, all that was taken, what is known to come next, behind which more may come, and all that
-- happened up to where it last found nothing or was told
pub record Taking : Type 0 where
  pub queue : TableId × TableId
  pub taken : List Update
  pub ahead : List Update
  pub past : List Event

-- the update is the next of what is known to come, if anything is known
abbrev pub IsNext : List Update → Update → Type 0
IsNext [] u = Unit {0}
IsNext (x ∷ left) u = u ≡ x
