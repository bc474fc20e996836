-- What the chip of a domain takes from its queue is the beginning of the queue.
use Rattle.std.proofs.Common.{◌≡◌, ℕ, zero, suc, ◌+◌, true, false, not, cond, List, [], ◌∷◌, ◌++◌, length, take, Option, None, Some, refl, sym, ap, subst, ◌∙◌}
use Rattle.std.specs.Prelude.{◌==◌, if◌then◌else◌}
use Rattle.std.specs.List.{flat_map, list_any}
use Rattle.std.specs.Option.{is_some, option_map, option_to_list}
use Rattle.std.proofs.lemmas.Bool.{eqb-true}
use Rattle.std.proofs.lemmas.Grind.{flat_map-append}
use Rattle.std.proofs.lemmas.List.{length-take-le}
use Rattle.std.proofs.lemmas.List.Elements.{filter-append}
use Rattle.br_model.specs.declared.change.Change.{Change}
use Rattle.br_model.specs.declared.domains.Edition.{Edition}
use Rattle.br_model.specs.declared.steps.Step.{Step}
use Rattle.br_model.specs.declared.steps.Step.TheVariants.{Turn}
use Rattle.br_model.specs.Plane.Chip.{Chip}
use Rattle.br_model.specs.Plane.Runs.{run}
use Rattle.br_model.specs.Plane.Steps.{world_step}
use Rattle.br_model.specs.Plane.World.{World, chip_at, first_world, next_of}
use Rattle.br_model.specs.Table.Change.{deferred}
use Rattle.br_model.specs.Table.Domains.{has_chip}
use Rattle.br_model.specs.Table.Cut.{deferred_count, deferred_of, synchronous_of}
use Rattle.br_model.specs.Table.Setup.{Setup}
use Rattle.br_model.specs.Theorems.Applied.{accepted_in, applied, applied_in, turned_in}
use Rattle.br_model.specs.Theorems.Invariants.{IsWorld}
use Rattle.br_model.proofs.Plane.Applied.{AppliesAt, run-applies, run-setup, step-applies, step-setup}
use Rattle.br_model.proofs.Plane.Chips.{chip-there}
use Rattle.br_model.proofs.Plane.Kept.{chip-stands, step-world}
use Rattle.br_model.proofs.Table.Cuts.{deferred_at-deferred}
use Rattle.driver_notices.specs.declared.line.NoticeLine.{NoticeLine}
use Rattle.driver_notices.specs.declared.line.NoticeLine.TheVariants.{Applied}
use Rattle.driver_notices.specs.Notices.{lines, lines_in, taken}
use Rattle.driver_notices.specs.Views.{queue, reached_by, taken_by}
use Rattle.driver_notices.proofs.RunLines.{numbered-behind, queue-numbered, run-keeps, run-reached}
use Rattle.driver_notices.proofs.StepLines.{numbered_from, of-taken, other-taken, step-reached}

none-deferred : (edition : Edition) (cs : List Change) → deferred_of edition (synchronous_of edition cs) ≡ []
none-deferred edition [] = refl
none-deferred edition (c ∷ cs) =
    elim (deferred edition c) as (λ b. deferred edition c ≡ b → deferred_of edition (cond (not b) (c ∷ synchronous_of edition cs) (synchronous_of edition cs)) ≡ []) [
      | true ↦ λ e. none-deferred edition cs
      | false ↦ λ e. ap (λ b. cond b (c ∷ deferred_of edition (synchronous_of edition cs)) (deferred_of edition (synchronous_of edition cs))) e ∙ none-deferred edition cs
    ] refl

-- What the lines say was taken by the chip of the domain is the deferred part of what they brought to it, numbered from 1.
abbrev pub IsNumbered : Edition → List (ℕ × Change) → List Change → Type 0
IsNumbered edition took came = took ≡ numbered_from 0 (deferred_of edition came)

record Takes (dom : ℕ) (w : World) (ls : List NoticeLine) : Type 0 where
  applies : AppliesAt dom w (flat_map (reached_by dom) ls)
  numbered : IsNumbered w.setup.domains.edition (flat_map (taken_by dom) ls) (flat_map (reached_by dom) ls)

-- the deferred part of more, behind as many as the chip has
more-numbered : (edition : Edition) (took more : List (ℕ × Change)) (came coming : List Change) → IsNumbered edition took came
    → more ≡ numbered_from (length (deferred_of edition came)) (deferred_of edition coming) → IsNumbered edition (took ++ more) (came ++ coming)
more-numbered edition took more came coming is so =
    ap (λ l. l ++ more) is
    ∙ ap (λ l. numbered_from 0 (deferred_of edition came) ++ l) so
    ∙ sym (numbered-behind (deferred_of edition came) (deferred_of edition coming))
    ∙ ap (numbered_from 0) (sym (filter-append (deferred edition) came coming))

module _ (dom : ℕ) (w : World) (came : List Change) (k : IsWorld w) (a : AppliesAt dom w came) where
  abbrev edition : Edition
  edition = w.setup.domains.edition

  -- the chip has taken as many as came to it
  count-came : (c : Chip) → chip_at w dom ≡ Some c → length (deferred_of edition came) ≡ c.count
  count-came c at = ap length (a c at).deferred ∙ length-take-le c.count (deferred_of edition w.history) (chip-stands w dom c k at).applied

  next-taken : (c : Chip) → chip_at w dom ≡ Some c → (o : Option Change) → next_of w c ≡ o → (e : ℕ) → (e == dom) ≡ true
      → flat_map (taken_by dom) (option_to_list (option_map (Applied (w.steps + 1) e (c.count + 1)) o))
      ≡ numbered_from (length (deferred_of edition came)) (deferred_of edition (option_to_list o))
  next-taken c at None next e is = refl
  next-taken c at (Some d) next e is =
      ap (λ b. cond b ((c.count + 1, d) ∷ []) [] ++ []) is
      ∙ ap (λ n. (n + 1, d) ∷ []) (sym (count-came c at))
      ∙ sym (ap (λ b. numbered_from (length (deferred_of edition came)) (cond b (d ∷ []) [])) (deferred_at-deferred edition w.history c.count d next).0)

  own-taken : (o : Option Chip) → chip_at w dom ≡ o → (e : ℕ) → (e == dom) ≡ true
      → flat_map (taken_by dom) (taken (w.steps + 1) e w o) ≡ numbered_from (length (deferred_of edition came)) (deferred_of edition (turned_in w o))
  own-taken None at e is = refl
  own-taken (Some c) at e is = next-taken c at (next_of w c) refl e is

  turn-taken : (e : ℕ) → flat_map (taken_by dom) (taken (w.steps + 1) e w (chip_at w e))
      ≡ numbered_from (length (deferred_of edition came)) (deferred_of edition (if e == dom then turned_in w (chip_at w dom) else []))
  turn-taken e =
      (elim (e == dom) as (λ b. (e == dom) ≡ b → flat_map (taken_by dom) (taken (w.steps + 1) e w (chip_at w e))
      ≡ numbered_from (length (deferred_of edition came)) (deferred_of edition (cond b (turned_in w (chip_at w dom)) []))) [
        | true ↦ λ is.
            ap (λ n. flat_map (taken_by dom) (taken (w.steps + 1) e w (chip_at w n))) (eqb-true e dom is)
            ∙ own-taken (chip_at w dom) refl e is
        | false ↦ λ other. other-taken (w.steps + 1) e w dom (chip_at w e) other
      ]) refl

  step-taken : (step : Step) → flat_map (taken_by dom) (lines_in w step) ≡ numbered_from (length (deferred_of edition came)) (deferred_of edition (applied_in dom w step))
  step-taken (Turn e) = turn-taken e
  step-taken step =
      of-taken edition (w.steps + 1) dom (deferred_count edition w.history) (accepted_in w step)
      ∙ sym (ap (numbered_from (length (deferred_of edition came))) (none-deferred edition (accepted_in w step)))

takes : (dom : ℕ) (w : World) (ls : List NoticeLine) (step : Step) → IsWorld w → Takes dom w ls → Takes dom (world_step w step).0 (ls ++ lines_in w step)
takes dom w ls step k t =
    let edition = w.setup.domains.edition in
    let reached : flat_map (reached_by dom) (ls ++ lines_in w step) ≡ flat_map (reached_by dom) ls ++ applied_in dom w step =
    flat_map-append (reached_by dom) ls (lines_in w step) ∙ ap (λ (l : List Change). flat_map (reached_by dom) ls ++ l) (step-reached w step dom) in
    let more = more-numbered edition (flat_map (taken_by dom) ls) (flat_map (taken_by dom) (lines_in w step)) (flat_map (reached_by dom) ls) (applied_in dom w step) t.numbered
    (step-taken dom w (flat_map (reached_by dom) ls) k t.applies step) in
    record {
      applies = subst (AppliesAt dom (world_step w step).0) (sym reached) (step-applies w dom (flat_map (reached_by dom) ls) step k t.applies);
      numbered = subst (λ (s : Setup). IsNumbered s.domains.edition (flat_map (taken_by dom) (ls ++ lines_in w step)) (flat_map (reached_by dom) (ls ++ lines_in w step)))
          (sym (step-setup w step))
          (flat_map-append (taken_by dom) ls (lines_in w step) ∙ more ∙ sym (ap (λ (l : List Change). numbered_from 0 (deferred_of edition l)) reached));
    }

take-numbered : (n k : ℕ) (cs : List Change) → numbered_from n (take k cs) ≡ take k (numbered_from n cs)
take-numbered n zero cs = refl
take-numbered n (suc k) [] = refl
take-numbered n (suc k) (c ∷ cs) = ap (λ l. (n + 1, c) ∷ l) (take-numbered (n + 1) k cs)

first-takes : (setup : Setup) (dom : ℕ) → Takes dom (first_world setup) []
unfolding run applied
first-takes setup dom = record { applies = run-applies setup [] dom; numbered = refl }

pub run-taken : (setup : Setup) (steps : List Step) (dom : ℕ) (c : Chip) → chip_at (run setup steps).0 dom ≡ Some c
    → flat_map (taken_by dom) (lines setup steps) ≡ take c.count (queue setup.domains.edition (run setup steps).0.history)
run-taken setup steps dom c at =
    let edition = setup.domains.edition in
    let history = (run setup steps).0.history in
    let t = run-keeps (Takes dom) (takes dom) setup steps (first-takes setup dom) in
    let numbered = subst (λ (s : Setup). IsNumbered s.domains.edition (flat_map (taken_by dom) (lines setup steps)) (flat_map (reached_by dom) (lines setup steps))) (run-setup setup steps) t.numbered in
    numbered
    ∙ ap (λ (l : List Change). numbered_from 0 (deferred_of edition l)) (run-reached setup steps dom)
    ∙ ap (numbered_from 0) (run-applies setup steps dom c at).deferred
    ∙ take-numbered 0 c.count (deferred_of edition history)
    ∙ ap (take c.count) (sym (queue-numbered edition history))

-- Where there is no chip, nothing is taken.

chip-exists : (w : World) (dom : ℕ) → IsWorld w → is_some (chip_at w dom) ≡ has_chip w.setup.domains dom
chip-exists w dom k = chip-there w.chips dom ∙ ap (list_any (λ d. d == dom)) k.doms

step-none : (w : World) (dom : ℕ) (step : Step) → is_some (chip_at w dom) ≡ false → flat_map (taken_by dom) (lines_in w step) ≡ []
step-none w dom (Turn e) none =
    (elim (e == dom) as (λ b. (e == dom) ≡ b → flat_map (taken_by dom) (taken (w.steps + 1) e w (chip_at w e)) ≡ []) [
      | true ↦ λ is. ap (λ n. flat_map (taken_by dom) (taken (w.steps + 1) e w (chip_at w n))) (eqb-true e dom is) ∙ by (chip_at w dom) refl none
      | false ↦ λ other. other-taken (w.steps + 1) e w dom (chip_at w e) other
    ]) refl
  where
    by : (o : Option Chip) → chip_at w dom ≡ o → is_some o ≡ false → flat_map (taken_by dom) (taken (w.steps + 1) e w o) ≡ []
    by None at there = refl
    by (Some c) at there = absurd (cc)
step-none w dom step none = of-taken w.setup.domains.edition (w.steps + 1) dom (deferred_count w.setup.domains.edition w.history) (accepted_in w step)

TakesNone : ℕ → World → List NoticeLine → Type 0
TakesNone dom w ls = is_some (chip_at w dom) ≡ false → flat_map (taken_by dom) ls ≡ []

takes-none : (dom : ℕ) (w : World) (ls : List NoticeLine) (step : Step) → IsWorld w → TakesNone dom w ls → TakesNone dom (world_step w step).0 (ls ++ lines_in w step)
unfolding TakesNone
takes-none dom w ls step k t none =
    let before : is_some (chip_at w dom) ≡ false =
    chip-exists w dom k ∙ ap (λ (s : Setup). has_chip s.domains dom) (sym (step-setup w step)) ∙ sym (chip-exists (world_step w step).0 dom (step-world w step k)) ∙ none in
    flat_map-append (taken_by dom) ls (lines_in w step)
    ∙ ap (λ l. l ++ flat_map (taken_by dom) (lines_in w step)) (t before)
    ∙ step-none w dom step before

pub run-none : (setup : Setup) (steps : List Step) (dom : ℕ) → chip_at (run setup steps).0 dom ≡ None → flat_map (taken_by dom) (lines setup steps) ≡ []
unfolding TakesNone
run-none setup steps dom none = run-keeps (TakesNone dom) (takes-none dom) setup steps (λ absent. refl) (ap is_some none)
