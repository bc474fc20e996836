-- How a chip comes to the changes that it has applied: synchronous ones at their acceptance, deferred ones one a turn.
-- Source: the kernel's switchdev.rst (deferred work); the queue is this profile's.
use Rattle.std.specs.Prelude.{ℕ, ◌+◌, List, [], ◌∷◌, ◌++◌}
use Rattle.std.specs.List.{fold}
use Rattle.std.specs.declared.option.Option.{Option}
use Rattle.std.specs.declared.option.Option.TheVariants.{None, Some}
use Rattle.br_model.specs.declared.change.Change.{Change}
use Rattle.br_model.specs.declared.domains.Edition.{Edition}
use Rattle.br_model.specs.Table.Cut.{synchronous_of, deferred_at}

pub data Event : Type 0 where
  -- these are accepted, in order
  Accept : List Change → Event
  -- the queue has a turn
  Turn : Event

pub record Applying : Type 0 where
  -- the accepted changes
  pub history : List Change
  -- those that the chip has applied, in the order in which it did
  pub applied : List Change
  -- how many of them are deferred ones: the ticket of the next one
  pub count : ℕ

abbrev pub nothing_applied : Applying
nothing_applied = record { history = []; applied = []; count = 0 }

-- the deferred change whose ticket is the count is applied, where there is one
abbrev pub turned : Applying → Option Change → Applying
turned s None = s
turned s (Some c) = record s { applied = s.applied ++ c ∷ []; count = s.count + 1 }

abbrev pub happens : Edition → Applying → Event → Applying
happens edition s (Accept changes) = record s { history = s.history ++ changes; applied = s.applied ++ synchronous_of edition changes }
happens edition s Turn = turned s (deferred_at edition s.history s.count)

-- after these events
abbrev pub applying : Edition → List Event → Applying
applying edition events = fold (happens edition) nothing_applied events
