-- What the lines of a step say.
use Rattle.std.proofs.Common.{◌≡◌, ℕ, ◌+◌, Bool, true, false, not, cond, List, [], ◌∷◌, ◌++◌, length, map, drop, Option, None, Some, refl, sym, ap, ◌∙◌}
use Rattle.std.specs.Prelude.{◌==◌, if◌then◌else◌}
use Rattle.std.specs.List.{AllByRecursion, enumerate_from, flat_map}
use Rattle.std.specs.Option.{option_map, option_map_or, option_to_list}
use Rattle.std.proofs.lemmas.Bool.{eqb-true}
use Rattle.std.proofs.lemmas.List.{append-nil}
use Rattle.lemmas.proofs.Lists.{drop-length}
use Rattle.br_model.specs.declared.change.Change.{Change}
use Rattle.br_model.specs.declared.domains.Edition.{Edition}
use Rattle.br_model.specs.declared.steps.Step.{Step}
use Rattle.br_model.specs.declared.steps.Step.TheVariants.{Turn}
use Rattle.br_model.specs.Plane.Chip.{Chip}
use Rattle.br_model.specs.Plane.ChipSteps.{turns, turns_to}
use Rattle.br_model.specs.Plane.Steps.{world_step}
use Rattle.br_model.specs.Plane.Traits.{traits}
use Rattle.br_model.specs.Plane.World.{World, chip_at, next_of}
use Rattle.br_model.specs.Table.Change.{deferred}
use Rattle.br_model.specs.Table.Cut.{deferred_count, deferred_of, synchronous_of}
use Rattle.br_model.specs.Theorems.Applied.{accepted_in, applied_in, turned_in}
use Rattle.br_model.proofs.Plane.Stays.{step-accepts}
use Rattle.driver_notices.specs.declared.line.NoticeLine.{NoticeLine}
use Rattle.driver_notices.specs.declared.line.NoticeLine.TheVariants.{Told, Queued, Applied}
use Rattle.driver_notices.specs.Notices.{accepted, lines_in, lines_of, taken}
use Rattle.driver_notices.specs.Views.{accepted_by, queued_by, reached_by, step_of, taken_by}

-- changes with the numbers of a queue that has had so many
abbrev pub numbered_from : ℕ → List Change → List (ℕ × Change)
numbered_from n cs = map (λ x. (x.0 + 1, x.1)) (enumerate_from n cs)

-- Changes that a step accepts.

module _ (edition : Edition) (step : ℕ) where
  pub of-accepted : (n : ℕ) (cs : List Change) → flat_map accepted_by (lines_of edition step n cs) ≡ cs
  of-accepted n [] = refl
  of-accepted n (c ∷ cs) =
      elim (deferred edition c) as (λ b. flat_map accepted_by (cond b (Queued step (n + 1) c ∷ lines_of edition step (n + 1) cs) (Told step c ∷ lines_of edition step n cs)) ≡ c ∷ cs) [
        | true ↦ ap (λ l. c ∷ l) (of-accepted (n + 1) cs)
        | false ↦ ap (λ l. c ∷ l) (of-accepted n cs)
      ]

  pub of-queued : (n : ℕ) (cs : List Change) → flat_map queued_by (lines_of edition step n cs) ≡ numbered_from n (deferred_of edition cs)
  of-queued n [] = refl
  of-queued n (c ∷ cs) =
      elim (deferred edition c) as (λ b. flat_map queued_by (cond b (Queued step (n + 1) c ∷ lines_of edition step (n + 1) cs) (Told step c ∷ lines_of edition step n cs))
      ≡ numbered_from n (cond b (c ∷ deferred_of edition cs) (deferred_of edition cs))) [
        | true ↦ ap (λ l. (n + 1, c) ∷ l) (of-queued (n + 1) cs)
        | false ↦ of-queued n cs
      ]

  pub of-taken : (dom n : ℕ) (cs : List Change) → flat_map (taken_by dom) (lines_of edition step n cs) ≡ []
  of-taken dom n [] = refl
  of-taken dom n (c ∷ cs) =
      elim (deferred edition c) as (λ b. flat_map (taken_by dom) (cond b (Queued step (n + 1) c ∷ lines_of edition step (n + 1) cs) (Told step c ∷ lines_of edition step n cs)) ≡ []) [
        | true ↦ of-taken dom (n + 1) cs
        | false ↦ of-taken dom n cs
      ]

  pub of-reached : (dom n : ℕ) (cs : List Change) → flat_map (reached_by dom) (lines_of edition step n cs) ≡ synchronous_of edition cs
  of-reached dom n [] = refl
  of-reached dom n (c ∷ cs) =
      elim (deferred edition c) as (λ b. flat_map (reached_by dom) (cond b (Queued step (n + 1) c ∷ lines_of edition step (n + 1) cs) (Told step c ∷ lines_of edition step n cs))
      ≡ cond (not b) (c ∷ synchronous_of edition cs) (synchronous_of edition cs)) [
        | true ↦ of-reached dom (n + 1) cs
        | false ↦ ap (λ l. c ∷ l) (of-reached dom n cs)
      ]

  pub of-step : (n : ℕ) (cs : List Change) → AllByRecursion (λ l. step_of l ≡ step) (lines_of edition step n cs)
  of-step n [] = tt
  of-step n (c ∷ cs) =
      elim (deferred edition c) as (λ b. AllByRecursion (λ l. step_of l ≡ step) (cond b (Queued step (n + 1) c ∷ lines_of edition step (n + 1) cs) (Told step c ∷ lines_of edition step n cs))) [
        | true ↦ (refl, of-step (n + 1) cs)
        | false ↦ (refl, of-step n cs)
      ]

-- A turn.

module _ (step dom : ℕ) (w : World) where
  abbrev taken_next : ℕ → Option Change → List NoticeLine
  taken_next count o = option_to_list (option_map (Applied step dom (count + 1)) o)

  pub turn-accepted : (o : Option Chip) → flat_map accepted_by (taken step dom w o) ≡ []
  turn-accepted None = refl
  turn-accepted (Some c) = by (next_of w c)
    where
      by : (o : Option Change) → flat_map accepted_by (taken_next c.count o) ≡ []
      by None = refl
      by (Some d) = refl

  pub turn-queued : (o : Option Chip) → flat_map queued_by (taken step dom w o) ≡ []
  turn-queued None = refl
  turn-queued (Some c) = by (next_of w c)
    where
      by : (o : Option Change) → flat_map queued_by (taken_next c.count o) ≡ []
      by None = refl
      by (Some d) = refl

  pub turn-step : (o : Option Chip) → AllByRecursion (λ l. step_of l ≡ step) (taken step dom w o)
  turn-step None = tt
  turn-step (Some c) = by (next_of w c)
    where
      by : (o : Option Change) → AllByRecursion (λ l. step_of l ≡ step) (taken_next c.count o)
      by None = tt
      by (Some d) = (refl, tt)

  pub turn-reached : (e : ℕ) (o : Option Chip) → flat_map (reached_by e) (taken step dom w o) ≡ (if dom == e then turned_in w o else [])
  turn-reached e o = by (dom == e) refl
    where
      of : (b : Bool) → (dom == e) ≡ b → (count : ℕ) (o : Option Change) → flat_map (reached_by e) (taken_next count o) ≡ cond b (option_to_list o) []
      of true is count None = refl
      of false is count None = refl
      of true is count (Some d) = ap (λ t. cond t (d ∷ []) [] ++ []) is
      of false is count (Some d) = ap (λ t. cond t (d ∷ []) [] ++ []) is

      at : (b : Bool) → (dom == e) ≡ b → (o : Option Chip) → flat_map (reached_by e) (taken step dom w o) ≡ cond b (turned_in w o) []
      at true is None = refl
      at false is None = refl
      at b is (Some c) = of b is c.count (next_of w c)

      by : (b : Bool) → (dom == e) ≡ b → flat_map (reached_by e) (taken step dom w o) ≡ (if dom == e then turned_in w o else [])
      by b is = at b is o ∙ sym (ap (λ t. cond t (turned_in w o) []) is)

  -- a turn of another chip
  pub other-taken : (e : ℕ) (o : Option Chip) → (dom == e) ≡ false → flat_map (taken_by e) (taken step dom w o) ≡ []
  other-taken e None other = refl
  other-taken e (Some c) other = by (next_of w c)
    where
      by : (o : Option Change) → flat_map (taken_by e) (taken_next c.count o) ≡ []
      by None = refl
      by (Some d) = ap (λ t. cond t ((c.count + 1, d) ∷ []) [] ++ []) other

-- Each step.

-- nothing is accepted by a turn
turned-history : (w : World) (o : Option Chip) → (turns w o).0.history ≡ w.history
turned-history w None = refl
turned-history w (Some c) = by (next_of w c)
  where
    by : (o : Option Change) → (turns_to w c o).0.history ≡ w.history
    by None = refl
    by (Some d) = refl

pub turn-accepts : (w : World) (dom : ℕ) → accepted_in w (Turn dom) ≡ []
turn-accepts w dom =
    let u = record w { steps = w.steps + 1 } in
    ap (drop (length w.history)) (turned-history u (chip_at w dom) ∙ sym (append-nil w.history)) ∙ drop-length w.history []

pub step-accepted : (w : World) (step : Step) → flat_map accepted_by (lines_in w step) ≡ accepted_in w step
step-accepted w (Turn dom) = turn-accepted (w.steps + 1) dom w (chip_at w dom) ∙ sym (turn-accepts w dom)
step-accepted w step = of-accepted w.setup.domains.edition (w.steps + 1) (deferred_count w.setup.domains.edition w.history) (accepted_in w step)

-- what a turn takes, and then what the step accepts
pub step-lines : (w : World) (step : Step)
    → option_map_or (λ dom. taken (w.steps + 1) dom w (chip_at w dom)) (traits step).turn [] ++ accepted w step ≡ lines_in w step
step-lines w (Turn dom) =
    let edition = w.setup.domains.edition in
    let its = taken (w.steps + 1) dom w (chip_at w dom) in
    ap (λ (l : List Change). its ++ lines_of edition (w.steps + 1) (deferred_count edition w.history) l) (turn-accepts w dom) ∙ append-nil its
step-lines w step = refl

pub step-queued : (w : World) (step : Step) → flat_map queued_by (lines_in w step)
    ≡ numbered_from (deferred_count w.setup.domains.edition w.history) (deferred_of w.setup.domains.edition (accepted_in w step))
step-queued w (Turn dom) =
    turn-queued (w.steps + 1) dom w (chip_at w dom)
    ∙ sym (ap (λ (l : List Change). numbered_from (deferred_count w.setup.domains.edition w.history) (deferred_of w.setup.domains.edition l)) (turn-accepts w dom))
step-queued w step = of-queued w.setup.domains.edition (w.steps + 1) (deferred_count w.setup.domains.edition w.history) (accepted_in w step)

pub step-steps : (w : World) (step : Step) → AllByRecursion (λ l. step_of l ≡ w.steps + 1) (lines_in w step)
step-steps w (Turn dom) = turn-step (w.steps + 1) dom w (chip_at w dom)
step-steps w step = of-step w.setup.domains.edition (w.steps + 1) (deferred_count w.setup.domains.edition w.history) (accepted_in w step)

-- the chip that has the turn is the one of its domain
same-turn : (w : World) (e dom : ℕ) → (if e == dom then turned_in w (chip_at w e) else []) ≡ (if e == dom then turned_in w (chip_at w dom) else [])
same-turn w e dom =
    (elim (e == dom) as (λ b. (e == dom) ≡ b → cond b (turned_in w (chip_at w e)) [] ≡ cond b (turned_in w (chip_at w dom)) []) [
      | true ↦ λ is. ap (λ n. turned_in w (chip_at w n)) (eqb-true e dom is)
      | false ↦ λ other. refl
    ]) refl

pub step-reached : (w : World) (step : Step) (dom : ℕ) → flat_map (reached_by dom) (lines_in w step) ≡ applied_in dom w step
step-reached w (Turn e) dom = turn-reached (w.steps + 1) e w dom (chip_at w e) ∙ same-turn w e dom
step-reached w step dom = of-reached w.setup.domains.edition (w.steps + 1) dom (deferred_count w.setup.domains.edition w.history) (accepted_in w step)

pub step-grows : (w : World) (step : Step) → (world_step w step).0.history ≡ w.history ++ accepted_in w step
step-grows w step =
    let grows = step-accepts w step in
    grows.1 ∙ sym (ap (λ (l : List Change). w.history ++ l) (ap (drop (length w.history)) grows.1 ∙ drop-length w.history grows.0))
