-- The messages of a run, step by step.
use Rattle.std.proofs.Common.{◌≡◌, ℕ, ◌+◌, ◌≤◌, List, [], ◌∷◌, ◌++◌, length, take, drop, Option, None, Some, refl, sym, ◌∙◌, ap, arith, length-append}
use Rattle.std.specs.List.{flat_map, fold, slice_get}
use Rattle.std.specs.Option.{option_map, option_map_or, option_to_list}
use Rattle.std.proofs.lemmas.Grind.{flat_map-append}
use Rattle.std.proofs.Math.Seq.{take-append_seam}
use Rattle.std.proofs.lemmas.List.Sums.{fold-append}
use Rattle.br_model.specs.declared.change.Change.{Change}
use Rattle.br_model.specs.declared.change.Update.{Update}
use Rattle.br_model.specs.declared.steps.Step.{Step}
use Rattle.br_model.specs.declared.steps.Step.TheVariants.{Turn}
use Rattle.br_model.specs.declared.transcript.Line.{Line}
use Rattle.br_model.specs.Plane.Chip.{Chip}
use Rattle.br_model.specs.Plane.Runs.{run}
use Rattle.br_model.specs.Plane.Steps.{world_step}
use Rattle.br_model.specs.Plane.Traits.{traits}
use Rattle.br_model.specs.Plane.World.{World, Stepped, chip_at, first_world}
use Rattle.br_model.specs.Table.Change.{updates}
use Rattle.br_model.specs.Table.Domains.{Domains}
use Rattle.br_model.specs.Table.Setup.{Setup}
use Rattle.br_model.proofs.Plane.Applied.{step-setup}
use Rattle.br_model.proofs.Plane.Stays.{step-accepts}
use Rattle.br_model.proofs.Plane.Still.{turn-history}
use Rattle.neigh_netlink.specs.declared.neigh.Neigh.{Neigh}
use Rattle.neigh_netlink.specs.Monitor.{accepted, message_line, messages, messages_in, messages_of, monitors, turned}
use Rattle.neigh_netlink.specs.Stream.{Kept, kept_of}
use Rattle.neigh_netlink.proofs.Told.{same-world}
use Rattle.run_world.specs.Voices.{IsNext}

-- whether a step is a turn

pub tells_accepted : (w : World) (step : Step) → (traits step).turn ≡ None → accepted w step ≡ messages_in w step
tells_accepted w step none = sym (ap (λ (o : Option ℕ). option_map_or (λ dom. option_to_list (turned w (chip_at w dom))) o (accepted w step)) none)

pub is_turn : (step : Step) (dom : ℕ) → (traits step).turn ≡ Some dom → step ≡ Turn dom
is_turn (Turn e) dom h = let same : e ≡ dom = cc in ap Turn same
is_turn step dom h = absurd (cc)

-- another step

module _ (w v : World) (step : Step) (lines : List Line) (is : (v, lines) ≡ world_step w step) where
  new_is : v ≡ (world_step w step).0
  new_is = ap (λ (x : Stepped). x.0) is

  pub same_domains : v.setup.domains ≡ w.setup.domains
  same_domains = ap (λ (x : World). x.setup.domains) new_is ∙ ap (λ (s : Setup). s.domains) (step-setup w step)

  history_is : v.history ≡ w.history ++ (step-accepts w step).0
  history_is = ap (λ (x : World). x.history) new_is ∙ (step-accepts w step).1

  pub grew : length w.history ≤ length v.history
  grew = omega (arith, ap length history_is, length-append w.history (step-accepts w step).0)

  pub front_is : take (length w.history) v.history ≡ w.history
  front_is = ap (take (length w.history)) history_is ∙ take-append_seam w.history (step-accepts w step).0

  -- what the stream has kept is that of the front
  pub kept_front : (k : Kept) → k ≡ kept_of w.setup.domains w.history → k ≡ kept_of k.domains (take (length w.history) v.history)
  kept_front k h = h ∙ ap (kept_of w.setup.domains) (sym front_is) ∙ ap (λ (d : Domains). kept_of d (take (length w.history) v.history)) (sym (ap (λ (k : Kept). k.domains) h))

  pub kept_on : (k : Kept) → k ≡ kept_of w.setup.domains w.history → kept_of k.domains v.history ≡ kept_of v.setup.domains v.history
  kept_on k h = ap (λ (d : Domains). kept_of d v.history) (ap (λ (k : Kept). k.domains) h ∙ sym same_domains)

  pub told_on : (k : Kept) → k ≡ kept_of w.setup.domains w.history → (traits step).turn ≡ None
      → messages_of k.domains.edition (take (length w.history) v.history) (drop (length w.history) v.history) ≡ messages_in w step
  told_on k h other =
      ap (λ (d : Domains). messages_of d.edition (take (length w.history) v.history) (drop (length w.history) v.history)) (ap (λ (k : Kept). k.domains) h)
      ∙ ap (λ (front : List Change). messages_of w.setup.domains.edition front (drop (length w.history) v.history)) front_is
      ∙ ap (λ (x : World). messages_of w.setup.domains.edition w.history (drop (length w.history) x.history)) new_is
      ∙ tells_accepted w step other

-- a turn accepts nothing

pub kept_by_turn : (w v : World) (dom : ℕ) (lines : List Line) (k : Kept) → (v, lines) ≡ world_step w (Turn dom) → k ≡ kept_of w.setup.domains w.history → k ≡ kept_of v.setup.domains v.history
kept_by_turn w v dom lines k is h =
    h ∙ ap (λ (d : Domains). kept_of d w.history) (sym (same_domains w v (Turn dom) lines is))
    ∙ ap (kept_of v.setup.domains) (sym (ap (λ (x : Stepped). x.0.history) is ∙ turn-history w dom))

-- the chip of a domain, by what it applied
pub next_is : (w : World) (dom n : ℕ) (update : Option Update) → option_map (λ c. c.count) (chip_at w dom) ≡ Some n
    → update ≡ slice_get (updates w.setup.domains.edition w.history) n → IsNext w dom update
next_is w dom n update counts is = of (chip_at w dom) refl counts
  where
    of : (o : Option Chip) → chip_at w dom ≡ o → option_map (λ c. c.count) o ≡ Some n → IsNext w dom update
    of None e h = absurd (cc)
    of (Some chip) e h = (chip, e, let same : n ≡ chip.count = cc in is ∙ ap (slice_get (updates w.setup.domains.edition w.history)) same)

pub told_by_turn : (w : World) (dom : ℕ) (message : Option Neigh) (chip : Chip) → chip_at w dom ≡ Some chip → message ≡ turned w (Some chip)
    → option_to_list message ≡ messages_in w (Turn dom)
told_by_turn w dom message chip at is = ap (λ (m : Option Neigh). option_to_list m) (is ∙ ap (turned w) (sym at))

-- the run

messages_push : (setup : Setup) (steps : List Step) (step : Step) → messages setup (steps ++ step ∷ []) ≡ messages setup steps ++ messages_in (run setup steps).0 step
unfolding messages run
messages_push setup steps step =
    let x : World × List Neigh = fold monitors (first_world setup, []) steps in
    ap (λ (y : World × List Neigh). y.1) (fold-append monitors (first_world setup, []) steps (step ∷ []))
    ∙ ap (λ (w : World). x.1 ++ messages_in w step) (same-world (first_world setup) [] (first_world setup, []) steps refl)

-- its lines
pub says_more : (w : World) (step : Step) (old new : List ℕ) (setup : Setup) (steps : List Step) → new ≡ old ++ flat_map message_line (messages_in w step) → w ≡ (run setup steps).0
    → old ≡ flat_map message_line (messages setup steps) → new ≡ flat_map message_line (messages setup (steps ++ step ∷ []))
says_more w step old new setup steps is at said =
    is
    ∙ ap (λ (b : List ℕ). b ++ flat_map message_line (messages_in w step)) said
    ∙ sym (flat_map-append message_line (messages setup steps) (messages_in w step))
    ∙ ap (λ (v : World). flat_map message_line (messages setup steps ++ messages_in v step)) at
    ∙ ap (flat_map message_line) (sym (messages_push setup steps step))
