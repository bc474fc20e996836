-- Frames on their way to software: those that wait, those that it holds, and the id of the next one.
use Rattle.std.specs.Prelude.{◌≡◌, ℕ, ◌+◌, ◌≤◌, nat_lt, Bool, true, ◌&&◌, List, [], ◌∷◌, ◌++◌, length, map}
use Rattle.std.specs.List.{list_all}
use Rattle.br_model.specs.declared.steps.Refusal.TheVariants.{NothingWaiting}
use Rattle.br_model.specs.declared.transcript.Line.{Line}
use Rattle.br_model.specs.declared.transcript.Line.TheVariants.{Held, Refused}
use Rattle.br_model.specs.Table.Limits.{most_waiting}
use Rattle.br_model.specs.Plane.World.{Waiting, Holding}

pub record Queued : Type 0 where
  -- the oldest first
  pub waiting : List Waiting
  pub held : List Holding
  pub next : ℕ

-- each number is below the later ones
abbrev pub ascends : List ℕ → Bool
ascends [] = true
ascends (n ∷ ns) = list_all (λ m. nat_lt n m) ns && ascends ns

abbrev pub waiting_ids : List Waiting → List ℕ
waiting_ids frames = map (λ f. f.id) frames

abbrev pub held_ids : List Holding → List ℕ
held_ids held = map (λ h. h.waiting.id) held

-- Ids ascend: held frames are older than those that wait, and these than the next.
pub record IsQueued (q : Queued) : Type 0 where
  pub ordered : ascends (held_ids q.held ++ (waiting_ids q.waiting ++ q.next ∷ [])) ≡ true
  pub few : length q.waiting + length q.held ≤ most_waiting

-- held frames by their ids

abbrev pub held_in : List (ℕ × Holding) → List Holding
held_in entries = map (λ e. e.1) entries

abbrev pub under_ids : List Holding → List (ℕ × Holding)
under_ids held = map (λ h. (h.waiting.id, h)) held

-- each stands under its own id
abbrev pub IsKeyed : List (ℕ × Holding) → Type 0
IsKeyed entries = entries ≡ under_ids (held_in entries)

-- The oldest frame that waits is held with this floor.
abbrev pub holds_oldest : Queued → ℕ → List Waiting → Queued
holds_oldest q floor [] = q
holds_oldest q floor (f ∷ later) = record q { waiting = later; held = q.held ++ record { waiting = f; floor = floor } ∷ [] }

-- the line of that step
abbrev pub hold_line : ℕ → ℕ → List Waiting → Line
hold_line step floor [] = Refused step NothingWaiting
hold_line step floor (f ∷ later) = Held f.id floor
