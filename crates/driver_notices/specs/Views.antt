-- What is read in lines.
-- Source: this profile.
use Rattle.std.specs.Prelude.{ℕ, ◌+◌, ◌==◌, if◌then◌else◌, List, [], ◌∷◌, map}
use Rattle.std.specs.List.{filter}
use Rattle.br_model.specs.declared.change.Change.{Change}
use Rattle.br_model.specs.declared.change.Update.{Update}
use Rattle.br_model.specs.declared.domains.Edition.{Edition}
use Rattle.br_model.specs.Table.Change.{updates}
use Rattle.driver_notices.specs.declared.line.NoticeLine.{NoticeLine}
use Rattle.driver_notices.specs.declared.line.NoticeLine.TheVariants.{Told, Queued, Applied}

-- the step under which it stands
abbrev pub step_of : NoticeLine → ℕ
step_of (Told step change) = step
step_of (Queued step number change) = step
step_of (Applied step dom number change) = step

-- the lines of the step with this number
abbrev pub of_step : ℕ → List NoticeLine → List NoticeLine
of_step step lines = filter (λ l. step_of l == step) lines

-- the change that it says was accepted
abbrev pub accepted_by : NoticeLine → List Change
accepted_by (Told step change) = change ∷ []
accepted_by (Queued step number change) = change ∷ []
accepted_by (Applied step dom number change) = []

-- what it says was put into the queues, with its number
abbrev pub queued_by : NoticeLine → List (ℕ × Change)
queued_by (Told step change) = []
queued_by (Queued step number change) = (number, change) ∷ []
queued_by (Applied step dom number change) = []

-- what it says that the chip of this domain took from its queue, with its number
abbrev pub taken_by : ℕ → NoticeLine → List (ℕ × Change)
taken_by dom (Told step change) = []
taken_by dom (Queued step number change) = []
taken_by dom (Applied step d number change) = if d == dom then (number, change) ∷ [] else []

-- the change that it says came to the chip of this domain
abbrev pub reached_by : ℕ → NoticeLine → List Change
reached_by dom (Told step change) = change ∷ []
reached_by dom (Queued step number change) = []
reached_by dom (Applied step d number change) = if d == dom then change ∷ [] else []

-- an update with the number that the queues give it
abbrev pub numbered : Update → ℕ × Change
numbered u = (u.ticket + 1, u.change)

abbrev pub queue : Edition → List Change → List (ℕ × Change)
queue edition history = map numbered (updates edition history)
