-- A run by workers: which steps may have happened where this scenario was given.
-- Source: this profile.
use Rattle.std.specs.Prelude.{ℕ, ◌==◌, nat_lt, Bool, true, false, not, ◌&&◌, ◌||◌, if◌then◌else◌, List, [], ◌∷◌, ◌++◌, length}
use Rattle.std.specs.List.{filter, list_all, list_any}
use Rattle.std.specs.Option.{is_some, option_map_or}
use Rattle.std.specs.declared.option.Option.{Option}
use Rattle.std.specs.declared.option.Option.TheVariants.{None, Some}
use Rattle.std.specs.declared.result.Result.{Result}
use Rattle.std.specs.declared.result.Result.TheVariants.{Ok, Err}
use Rattle.br_model.specs.declared.steps.Refusal.{Refusal}
use Rattle.br_model.specs.declared.steps.Refusal.TheVariants.{HistoryFull}
use Rattle.br_model.specs.declared.steps.Step.{Step}
use Rattle.br_model.specs.declared.transcript.Line.{Line}
use Rattle.br_model.specs.Control.Refusals.{refusal_number}
use Rattle.br_model.specs.Plane.Chip.{Chip}
use Rattle.br_model.specs.Plane.LineTraits.{line_traits}
use Rattle.br_model.specs.Plane.Runs.{run, pending}
use Rattle.br_model.specs.Plane.Steps.{world_step}
use Rattle.br_model.specs.Plane.Traits.{traits}
use Rattle.br_model.specs.Plane.World.{World, first_world}
use Rattle.br_model.specs.Program.Runs.{setup_of}
use Rattle.br_model.specs.Program.SameSteps.{same_step, same_steps}
use Rattle.br_model.specs.Table.Setup.{Setup}
use Rattle.br_model.specs.Text.Scenario.{Scenario}

-- Steps.

-- a frame enters
abbrev pub is_frame : Step → Bool
is_frame s = is_some (traits s).frame

-- a frame enters at this port
abbrev pub is_frame_at : ℕ → Step → Bool
is_frame_at q s = option_map_or (λ f. f.0 == q) (traits s).frame false

-- the other steps that workers take from the scenario
abbrev pub is_ordered : Step → Bool
is_ordered s = (traits s).ordered

-- a step that may stand in the drain, the longest end of the steps that has none but these
abbrev pub may_drain : Step → Bool
may_drain s = (traits s).drains

-- what is accepted is published
abbrev pub is_publish : Step → Bool
is_publish s = (traits s).publishes

-- The steps before the first frame.

abbrev pub until_frame : List Step → List Step
until_frame [] = []
until_frame (s ∷ steps) = if is_frame s then [] else s ∷ until_frame steps

-- and those from it on
abbrev pub from_frame : List Step → List Step
from_frame [] = []
from_frame (s ∷ steps) = if is_frame s then s ∷ steps else from_frame steps

-- a first part, and the steps behind it
pub record Parts : Type 0 where
  pub first : List Step
  pub later : List Step

abbrev pub with_first : Step → Option Parts → Option Parts
with_first s None = None
with_first s (Some p) = Some (record { first = s ∷ p.first; later = p.later })

-- The first part of the steps that becomes `opening` when some publications are taken out of it, if there is one: the shortest.
-- Another such part goes on with publications.
abbrev pub parts_at : List Step → List Step → Option Parts
parts_at [] steps = Some (record { first = []; later = steps })
parts_at (o ∷ opening) [] = None
parts_at (o ∷ opening) (s ∷ steps) =
    if same_step s o then with_first s (parts_at opening steps) else
    if is_publish s then with_first s (parts_at (o ∷ opening) steps) else
    None

-- The steps behind them: those that the scenario gives.

abbrev pub frames_at : ℕ → List Step → List Step
frames_at q steps = filter (is_frame_at q) steps

-- the frames of the port at which this step is one
abbrev pub same_frames_at : List Step → List Step → Step → Bool
same_frames_at xs ys s = option_map_or (λ f. same_steps (frames_at f.0 xs) (frames_at f.0 ys)) (traits s).frame true

-- Each port has the same frames in both, in the same order: each port that has one in either. A port without a frame in either has none
-- in both.
abbrev pub same_frames : List Step → List Step → Bool
same_frames xs ys = list_all (same_frames_at xs ys) (xs ++ ys)

-- and the other steps have one order
abbrev pub same_order : List Step → List Step → Bool
same_order xs ys = same_steps (filter is_ordered xs) (filter is_ordered ys)

-- What is accepted is published at once.

abbrev pub accepts_changes : World → Step → Bool
accepts_changes w s = nat_lt (length w.history) (length (world_step w s).0.history)

-- a publication comes next
abbrev pub begins_with_publish : List Step → Bool
begins_with_publish [] = false
begins_with_publish (s ∷ steps) = is_publish s

-- The drain: no step comes but serves, turns, reports and publications. From this world on, each step before it that accepts changes is
-- directly followed by a publication.
abbrev pub publishes_at_once : World → List Step → Bool
publishes_at_once w [] = true
publishes_at_once w (s ∷ steps) =
    list_all may_drain (s ∷ steps)
    || ((not (accepts_changes w s) || begins_with_publish steps) && publishes_at_once (world_step w s).0 steps)

-- The end.

abbrev pub ends_with_publish : List Step → Bool
ends_with_publish [] = false
ends_with_publish (s ∷ []) = is_publish s
ends_with_publish (s ∷ t ∷ steps) = ends_with_publish (t ∷ steps)

-- whether a step was refused since the history has no room for what it would change
abbrev pub is_full : Result ℕ Refusal → Bool
is_full (Ok changes) = false
is_full (Err why) = refusal_number why == refusal_number HistoryFull

-- the same, as a line tells it
abbrev pub says_full : Line → Bool
says_full l = option_map_or (λ a. is_full a.1) (line_traits l).answer false

-- the chip of this domain reports
abbrev pub is_report_at : ℕ → Step → Bool
is_report_at dom s = option_map_or (λ d. d == dom) (traits s).report false

-- Whether the last report of this domain's chip, from this world on, is refused for want of room; without one, as before.
abbrev pub last_refused : ℕ → World → Bool → List Step → Bool
last_refused dom w before [] = before
last_refused dom w before (s ∷ steps) =
    let y = world_step w s in last_refused dom y.0 (if is_report_at dom s then list_any says_full y.1 else before) steps

abbrev pub is_empty : {A : Type 0} → List A → Bool
is_empty [] = true
is_empty (x ∷ xs) = false

-- no report is left, unless the last one was refused for want of room
abbrev pub has_reported : Setup → List Step → Chip → Bool
has_reported setup steps c = is_empty c.reports || last_refused c.dom (first_world setup) false steps

-- nothing waits, is held or is pending, and the chips have reported
abbrev pub is_drained : Setup → List Step → World → Bool
is_drained setup steps w = is_empty w.waiting && (is_empty w.held && (pending w == 0 && list_all (has_reported setup steps) w.chips))

-- Together.

abbrev pub is_live_by : Scenario → List Step → Option Parts → Bool
is_live_by sc steps None = false
is_live_by sc steps (Some p) =
    same_frames p.later (from_frame sc.steps)
    && (same_order p.later (from_frame sc.steps)
    && (publishes_at_once (run (setup_of sc.roster) p.first).0 p.later
    && (ends_with_publish steps && is_drained (setup_of sc.roster) steps (run (setup_of sc.roster) steps).0)))

-- Whether workers may have taken these steps: at first the scenario's own before its first frame, maybe with publications among them;
-- then its frames in the order of each port, its commands, moments and sweeps in theirs, and holds, posts, serves, turns, reports and
-- publications of their own, so that what is accepted is published at once; and at the end nothing is left to do.
unfoldable pub is_live_run : List Step → Scenario → Bool
is_live_run steps sc = is_live_by sc steps (parts_at (until_frame sc.steps) steps)
