-- What contracts see of a driver's desk, and of the queues that are handed in.
use Rattle.std.specs.Prelude.{◌≡◌, ℕ, ◌≤◌, nat_lt, if◌then◌else◌, [], ◌∷◌, ◌++◌, drop, length}
use Rattle.std.specs.declared.option.Option.{Option}
use Rattle.std.specs.declared.option.Option.TheVariants.{None, Some}
use Rattle.br_model.specs.declared.change.Update.{Update}
use Rattle.deferred_queue.specs.Ends.{Taking, IsNext}
use Rattle.deferred_queue.specs.Tally.{Looked, posts_in}

-- the taking end, and the update that was taken and isn't applied
pub record DeskState : Type 0 where
  pub taker : Taking
  pub kept : Option Update

-- the update was taken from the queue
pub record IsTaken (old new : Taking) (u : Update) : Type 0 where
  pub ticket : u.ticket ≡ length old.taken
  pub next : IsNext old.ahead u
  pub taken : new ≡ record old { taken = old.taken ++ u ∷ []; ahead = drop 1 old.ahead }

-- all that had been posted had been taken
pub record IsEmpty (old new : Taking) : Type 0 where
  pub ahead : old.ahead ≡ []
  pub same : new ≡ record old { past = new.past }
  pub looked : Looked old.past new.past
  pub all : posts_in new.past ≤ length old.taken

-- the update that is kept, or else one from the queue, which is then kept
abbrev pub Serves : Option Update → Option Update → DeskState → DeskState → Type 0
Serves (Some u) answer old new = (answer ≡ Some u) × (new ≡ old)
Serves None (Some u) old new = (new.kept ≡ Some u) × IsTaken old.taker new.taker u
Serves None None old new = (new.kept ≡ None) × IsEmpty old.taker new.taker

-- what is kept once so many are applied
abbrev pub left_by : Option Update → ℕ → Option Update
left_by None applied = None
left_by (Some u) applied = if nat_lt u.ticket applied then None else Some u
