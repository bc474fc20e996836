-- What an event comes to where something follows a bridge.
use Rattle.std.specs.Prelude.{◌≡◌, ℕ, List, ◌++◌, length, IsErr}
use Rattle.std.specs.declared.alloc.AllocError.{AllocError}
use Rattle.std.specs.declared.result.Result.{Result}
use Rattle.std.specs.declared.result.Result.TheVariants.{Ok, Err}
use Rattle.br_model.specs.declared.steps.Refusal.{Refusal}
use Rattle.br_model.specs.declared.transcript.Line.{Line}
use Rattle.br_model.specs.declared.transcript.Line.TheVariants as lines
use Rattle.br_model.specs.Control.Reaction.{Reaction}
use Rattle.br_model.specs.Plane.Chip.{Chip}
use Rattle.br_model.specs.Plane.World.{World, Stepped, accepts, control_lines}
use Rattle.br_model.specs.Table.Setup.{Setup}
use Rattle.bridge_state.specs.declared.faults.EventFault.{EventFault}
use Rattle.bridge_state.specs.declared.faults.EventFault.TheVariants.{Refused, NoMemory}
use Rattle.plane_parts.specs.Queued.{Queued}

-- How something, S, is a bridge with what follows it.
pub record Seen (S : Type 0) : Type 0 where
  pub setup : S → Setup
  -- with the changes and the control state of a reaction, and with these chips
  pub made : S → Reaction → List Chip → S
  -- the world with these frames and so many steps
  pub world : S → Queued → ℕ → World
  pub setup_is : (s : S) (q : Queued) (step : ℕ) → (world s q step).setup ≡ setup s
  pub steps_are : (s : S) (q : Queued) (step : ℕ) → (world s q step).steps ≡ step
  pub made_is : (s : S) (r : Reaction) (kept : List Chip) (q : Queued) (step : ℕ) → world (made s r kept) q step ≡ accepts (record (world s q step) { chips = kept }) r

-- The changes of the reaction were made, and are so many, the chips are these, and the lines of the messages were added; or
-- nothing changed.
abbrev pub Reacted : {S : Type 0} → Seen S → S → S → List Chip → List Line → List Line → Result ℕ EventFault → Result Reaction Refusal → Type 0
Reacted seen old new kept before after (Ok changes) answer =
    (r : Reaction) × (answer ≡ Ok r) × (changes ≡ length r.changes) × (new ≡ seen.made old r kept) × (after ≡ before ++ control_lines (seen.setup old).own r.messages)
Reacted seen old new kept before after (Err (Refused why)) answer = (answer ≡ Err why) × (new ≡ old) × (after ≡ before)
Reacted seen old new kept before after (Err NoMemory) answer = (new ≡ old) × (after ≡ before)

-- the last line of a step in which an event came to so many changes, or was refused
abbrev pub Lasts : ℕ → Result ℕ EventFault → Result Line AllocError → Type 0
Lasts step (Ok changes) last = last ≡ Ok (lines.Done step changes)
Lasts step (Err (Refused why)) last = last ≡ Ok (lines.Refused step why)
Lasts step (Err NoMemory) last = IsErr last

-- Whichever frames there are, what is done in a world that has counted this step comes to this and to these lines.
abbrev pub Comes : {S : Type 0} → Seen S → (World → Stepped) → S → ℕ → S → List Line → Type 0
Comes seen does old step new lines = (q : Queued) → does (seen.world old q step) ≡ (seen.world new q step, lines)
