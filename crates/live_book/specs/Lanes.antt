-- The lanes in which steps keep their order: the frames of each port, and the ordered steps.
-- Source: this profile.
use Rattle.std.specs.Prelude.{◌≡◌, ℕ, zero, suc, ◌+◌, ◌<◌, ◌≤◌, Bool, true, List, drop, length, slice_index_or}
use Rattle.std.specs.List.{filter}
use Rattle.br_model.specs.declared.steps.Step.{Step}
use Rattle.br_model.specs.Program.LiveRun.{is_frame_at, is_ordered}

-- the first lane has the ordered steps; a port's lane is the one behind its number
abbrev pub is_in_lane : ℕ → Step → Bool
is_in_lane zero s = is_ordered s
is_in_lane (suc port) s = is_frame_at port s

-- from one place on, the next step that passes stands at the other; none such is the length
pub record IsNext (p : Step → Bool) (steps : List Step) (from at : ℕ) : Type 0 where
  pub within : at ≤ length steps
  pub skipped : filter p (drop from steps) ≡ filter p (drop at steps)
  pub here : (s : Step) → at < length steps → p (slice_index_or steps at s) ≡ true

-- the next step of each lane
abbrev pub AreHeads : List Step → ℕ → List ℕ → Type 0
AreHeads steps from heads = (q : ℕ) → IsNext (is_in_lane q) steps from (slice_index_or heads q (length steps))

-- behind each step that has a lane, the next one of it
abbrev pub AreLinks : List Step → ℕ → List ℕ → Type 0
AreLinks steps from links = (q k : ℕ) (s : Step) → from ≤ k → k < length steps → is_in_lane q (slice_index_or steps k s) ≡ true
    → IsNext (is_in_lane q) steps (k + 1) (slice_index_or links k 0)
