-- The cut of a history: what a chip has applied, which is each synchronous change and the first deferred ones.
-- Source: this profile.
use Rattle.std.specs.Prelude.{ℕ, zero, suc, not, if◌then◌else◌, List, [], ◌∷◌, length, take}
use Rattle.std.specs.List.{filter, slice_get}
use Rattle.std.specs.declared.option.Option.{Option}
use Rattle.br_model.specs.declared.change.Change.{Change}
use Rattle.br_model.specs.declared.change.Update.{Update}
use Rattle.br_model.specs.declared.domains.Edition.{Edition}
use Rattle.br_model.specs.Table.Change.{deferred}

-- those that reach a chip through the queue, in order
abbrev pub deferred_of : Edition → List Change → List Change
deferred_of edition changes = filter (deferred edition) changes

-- those that reach a chip in the step that accepts them, in order
abbrev pub synchronous_of : Edition → List Change → List Change
synchronous_of edition changes = filter (λ c. not (deferred edition c)) changes

-- how many of them are deferred ones
abbrev pub deferred_count : Edition → List Change → ℕ
deferred_count edition changes = length (deferred_of edition changes)

-- the deferred change with this ticket
abbrev pub deferred_at : Edition → List Change → ℕ → Option Change
deferred_at edition history ticket = slice_get (deferred_of edition history) ticket

-- a deferred change on its way to a chip
abbrev pub under_ticket : ℕ → Change → Update
under_ticket ticket c = record { ticket = ticket; change = c }

-- The history without the deferred changes after the first k deferred ones; the order stays. A deferred change that is
-- kept counts k down.
abbrev pub cut : Edition → List Change → ℕ → List Change
cut edition [] k = []
cut edition (c ∷ later) zero = if deferred edition c then cut edition later zero else c ∷ cut edition later zero
cut edition (c ∷ later) (suc k) = c ∷ cut edition later (if deferred edition c then k else suc k)

-- the length of the shortest front of the history that has k deferred changes, and of all of it where it has fewer
abbrev pub reach : Edition → List Change → ℕ → ℕ
reach edition [] k = zero
reach edition (c ∷ later) zero = zero
reach edition (c ∷ later) (suc k) = suc (reach edition later (if deferred edition c then k else suc k))

-- that front, which ends with the k-th deferred change
abbrev pub front : Edition → List Change → ℕ → List Change
front edition history k = take (reach edition history k) history
