-- Each chip's table is that of what it has applied.
use Rattle.std.proofs.Common.{◌≡◌, ℕ, ◌+◌, true, false, cond, List, [], ◌∷◌, ◌++◌, length, map, drop, Option, None, Some, refl, sym, ap, ◌∙◌, subst, take}
use Rattle.std.proofs.lemmas.Bool.{eqb-true}
use Rattle.std.proofs.lemmas.List.{append-nil}
use Rattle.std.specs.List.{fold, AllByRecursion, list_any}
use Rattle.std.specs.Prelude.{◌==◌, if◌then◌else◌, is_some}
use Rattle.std.specs.Option.{option_to_list, option_map}
use Rattle.std.specs.declared.result.Result.{Result}
use Rattle.std.specs.declared.result.Result.TheVariants.{Ok, Err}
use Rattle.std.proofs.lemmas.Option.{same_Some}
use Rattle.lemmas.proofs.Lists.{drop-length}
use Rattle.br_model.specs.declared.change.Change.{Change}
use Rattle.br_model.specs.declared.domains.Edition.{Edition}
use Rattle.br_model.specs.declared.steps.Event.TheVariants as events
use Rattle.br_model.specs.declared.steps.Refusal.{Refusal}
use Rattle.br_model.specs.Plane.Chip.{Chip, first_chip, first_chips, applies}
use Rattle.br_model.specs.Table.Cut.{cut, deferred_of, synchronous_of}
use Rattle.br_model.specs.Table.Domains.{chip_domains, has_chip}
use Rattle.br_model.specs.Control.Reaction.{Reaction}
use Rattle.br_model.specs.Table.Setup.{Setup}
use Rattle.br_model.specs.Table.Table.{table}
use Rattle.br_model.specs.Theorems.Applied.{applied_in, turned_in, then_applied, applied}
use Rattle.br_model.specs.Plane.ChipSteps.{turns_to, turns}
use Rattle.br_model.specs.Theorems.Invariants.{IsWorld}
use Rattle.br_model.specs.Plane.Runs.{run, then_step}
use Rattle.br_model.specs.Plane.Steps.{world_step}
use Rattle.br_model.specs.Plane.Traits.{traits}
use Rattle.br_model.specs.declared.steps.Step.{Step}
use Rattle.br_model.specs.declared.steps.Step.TheVariants.{Turn}
use Rattle.br_model.specs.Plane.World.{World, Stepped, first_world, chip_at, next_of, answered, reacts}
use Rattle.br_model.proofs.Plane.Applying.{after_accept, after_turn, once_after_accept, once_after_turn}
use Rattle.br_model.proofs.Plane.Chips.{chip-dom, chip-there, put-same, put-other, CountsStay, counts-same, counted-before}
use Rattle.br_model.proofs.Plane.Kept.{answers-counts, chip-stands, enters-counts, first-world, hit_by-keeps, step-world}
use Rattle.br_model.proofs.Data.Lists.{find-each}
use Rattle.br_model.proofs.Plane.StepEnds.{Ends, does-ends, ends_answered, ends_applied, ends_entered, ends_held, ends_idle, ends_published, ends_refused, ends_sent, ends_unread}
use Rattle.br_model.proofs.Plane.Stays.{step-stays}

-- Changes are accepted behind those that were, and no chip applies a deferred one.
abbrev Grows : World → World → Type 0
Grows w v = (changes : List Change) × (v.setup ≡ w.setup) × (v.history ≡ w.history ++ changes) × CountsStay w.chips v.chips

answered-counts : (w : World) (chips : List Chip) (answer : Result Reaction Refusal) → CountsStay w.chips chips → CountsStay w.chips (answered w (record w { chips = chips }) answer).0.chips
answered-counts w chips (Err why) counts = counts-same w.chips
answered-counts w chips (Ok r) counts = counts

ends-counts : (w : World) {step : Step} {y : Stepped} → (traits step).turn ≡ None → Ends w step y → CountsStay w.chips y.0.chips
ends-counts w none (ends_refused why) = counts-same w.chips
ends-counts w none (ends_unread port bytes why is) = counts-same w.chips
ends-counts w none (ends_entered port bytes n) = enters-counts w port bytes n.head n.enters
ends-counts w none (ends_held f later is) = counts-same w.chips
ends-counts w none (ends_sent f held waiting point leaves) =
    let v = record w { held = held; waiting = waiting } in answered-counts v w.chips (reacts v (events.Sight f.port f.bytes f.head)) (counts-same w.chips)
ends-counts w none (ends_applied dom c d at is) = absurd (cc)
ends-counts w none (ends_idle dom) = counts-same w.chips
ends-counts w none (ends_answered chips e answers) = answered-counts w chips (reacts w e) (answers-counts w answers)
ends-counts w none ends_published = counts-same w.chips

-- where it isn't a turn
step-grows : (w : World) (step : Step) → (traits step).turn ≡ None → Grows w (world_step w step).0
step-grows w step none = let u = record w { steps = w.steps + 1 } in let s = step-stays w step in (s.0, s.1, s.2, ends-counts u none (does-ends u step))

-- What is applied so far by a chip that has so many deferred changes: it makes the chip's table, and holds each synchronous change
-- and the first deferred ones once, each kind in order.
pub record Applies (edition : Edition) (history : List Change) (count : ℕ) (done : List Change) : Type 0 where
  pub table : table done ≡ table (cut edition history count)
  pub synchronous : synchronous_of edition done ≡ synchronous_of edition history
  pub deferred : deferred_of edition done ≡ take count (deferred_of edition history)

-- by the chip of this domain
abbrev pub AppliesAt : ℕ → World → List Change → Type 0
AppliesAt dom w done = (c : Chip) → chip_at w dom ≡ Some c → Applies w.setup.domains.edition w.history c.count done

accepts-applies : (w v : World) (dom : ℕ) (done : List Change) → IsWorld w → AppliesAt dom w done → Grows w v
    → AppliesAt dom v (done ++ synchronous_of w.setup.domains.edition (drop (length w.history) v.history))
accepts-applies w v dom done k a g c at =
    let edition = w.setup.domains.edition in
    let before = counted-before (chip_at w dom) c (sym (ap (option_map (λ (x : Chip). x.count)) at) ∙ g.3 dom) in
    let b = before.0 in
    let is = a b before.1 in
    let count : c.count ≡ b.count = sym before.2 in
    let stands = chip-stands w dom b k before.1 in
    let changes = ap (drop (length w.history)) g.2 ∙ drop-length w.history g.0 in
    let after = after_accept edition w.history done g.0 b.count stands.applied is.table in
    let once = once_after_accept edition w.history done g.0 b.count stands.applied is.synchronous is.deferred in
    subst (λ (s : Setup). Applies s.domains.edition v.history c.count (done ++ synchronous_of edition (drop (length w.history) v.history))) (sym g.1) (record {
      table = ap (λ (l : List Change). table (done ++ synchronous_of edition l)) changes ∙ after.1 ∙ sym (λ i. table (cut edition (g.2 i) (count i)));
      synchronous = ap (λ (l : List Change). synchronous_of edition (done ++ synchronous_of edition l)) changes ∙ once.0 ∙ sym (ap (synchronous_of edition) g.2);
      deferred = ap (λ (l : List Change). deferred_of edition (done ++ synchronous_of edition l)) changes ∙ once.1 ∙ sym (λ i. take (count i) (deferred_of edition (g.2 i)));
    })

-- nothing is applied
same-applies : {edition : Edition} {history : List Change} {count : ℕ} (done : List Change) → Applies edition history count done → Applies edition history count (done ++ [])
same-applies {edition} {history} {count} done a = subst (Applies edition history count) (sym (append-nil done)) a

turns_to-applies : (w : World) (dom : ℕ) (done : List Change) (c : Chip) (o : Option Change) → chip_at w dom ≡ Some c → next_of w c ≡ o → AppliesAt dom w done
    → AppliesAt dom (turns_to w c o).0 (done ++ option_to_list o)
turns_to-applies w dom done c None there e a d at = same-applies done (a d at)
turns_to-applies w dom done c (Some x) there e a d at =
    let edition = w.setup.domains.edition in
    let is = a c there in
    let keep = hit_by-keeps (record c { count = c.count + 1 }) x in
    let after = after_turn edition w.history done c.count x e is.table in
    let once = once_after_turn edition w.history done c.count x e is.synchronous is.deferred in
    let own = chip-dom w.chips dom c there in
    let new : applies c x ≡ d = same_Some (applies c x) d (sym (put-same w.chips (applies c x) dom c (keep.dom ∙ own) there) ∙ at) in
    subst (λ (y : Chip). Applies edition w.history y.count (done ++ x ∷ [])) new (record {
      table = after.1 ∙ sym (ap (λ n. table (cut edition w.history n)) keep.count);
      synchronous = once.0;
      deferred = once.1 ∙ sym (ap (λ n. take n (deferred_of edition w.history)) keep.count);
    })

turns-applies : (w : World) (dom : ℕ) (done : List Change) (o : Option Chip) → chip_at w dom ≡ o → AppliesAt dom w done → AppliesAt dom (turns w o).0 (done ++ turned_in w o)
turns-applies w dom done None there a = λ d at. same-applies done (a d at)
turns-applies w dom done (Some c) there a = turns_to-applies w dom done c (next_of w c) there refl a

-- a turn of another chip
turns_to-other : (w : World) (dom e : ℕ) (done : List Change) (c : Chip) (o : Option Change) → chip_at w e ≡ Some c → (e == dom) ≡ false → AppliesAt dom w done
    → AppliesAt dom (turns_to w c o).0 (done ++ [])
turns_to-other w dom e done c None there other a d at = same-applies done (a d at)
turns_to-other w dom e done c (Some x) there other a d at =
    let own = (hit_by-keeps (record c { count = c.count + 1 }) x).dom ∙ chip-dom w.chips e c there in
    same-applies done (a d (sym (put-other w.chips (applies c x) dom (ap (λ n. n == dom) own ∙ other)) ∙ at))

turns-other : (w : World) (dom e : ℕ) (done : List Change) (o : Option Chip) → chip_at w e ≡ o → (e == dom) ≡ false → AppliesAt dom w done → AppliesAt dom (turns w o).0 (done ++ [])
turns-other w dom e done None there other a = λ d at. same-applies done (a d at)
turns-other w dom e done (Some c) there other a = turns_to-other w dom e done c (next_of w c) there other a

turn-applies : (w : World) (dom e : ℕ) (done : List Change) → AppliesAt dom w done → AppliesAt dom (turns w (chip_at w e)).0 (done ++ (if e == dom then turned_in w (chip_at w dom) else []))
turn-applies w dom e done a =
    (elim (e == dom) as (λ b. (e == dom) ≡ b → AppliesAt dom (turns w (chip_at w e)).0 (done ++ cond b (turned_in w (chip_at w dom)) [])) [
      | true ↦ λ is. subst (λ n. AppliesAt dom (turns w (chip_at w n)).0 (done ++ turned_in w (chip_at w dom))) (sym (eqb-true e dom is)) (turns-applies w dom done (chip_at w dom) refl a)
      | false ↦ λ other. turns-other w dom e done (chip_at w e) refl other a
    ]) refl

-- Each step.

pub step-applies : (w : World) (dom : ℕ) (done : List Change) (step : Step) → IsWorld w → AppliesAt dom w done → AppliesAt dom (world_step w step).0 (done ++ applied_in dom w step)
step-applies w dom done (Turn e) k a = turn-applies (record w { steps = w.steps + 1 }) dom e done a
step-applies w dom done step k a = accepts-applies w (world_step w step).0 dom done k a (step-grows w step refl)

-- No step changes what was said before.
pub step-setup : (w : World) (step : Step) → (world_step w step).0.setup ≡ w.setup
step-setup w step = (step-stays w step).1

-- Runs.

fold-world : (x : Stepped) (steps : List Step) → IsWorld x.0 → IsWorld (fold then_step x steps).0
fold-world x [] k = k
fold-world x (step ∷ steps) k = fold-world (then_step x step) steps (step-world x.0 step k)

pub run-world : (setup : Setup) (steps : List Step) → IsWorld (run setup steps).0
unfolding run
run-world setup steps = fold-world (first_world setup, []) steps (first-world setup)

fold-setup : (x : Stepped) (steps : List Step) → (fold then_step x steps).0.setup ≡ x.0.setup
fold-setup x [] = refl
fold-setup x (step ∷ steps) = fold-setup (then_step x step) steps ∙ step-setup x.0 step

pub run-setup : (setup : Setup) (steps : List Step) → (run setup steps).0.setup ≡ setup
unfolding run
run-setup setup steps = fold-setup (first_world setup, []) steps

fold-applies : (dom : ℕ) (x : Stepped) (y : World × List Change) (steps : List Step) → y.0 ≡ x.0 → IsWorld x.0 → AppliesAt dom x.0 y.1
    → AppliesAt dom (fold then_step x steps).0 (fold (then_applied dom) y steps).1
fold-applies dom x y [] same k a = a
fold-applies dom x y (step ∷ steps) same k a = fold-applies dom (then_step x step) (then_applied dom y step) steps (ap (λ w. (world_step w step).0) same) (step-world x.0 step k)
    (subst (λ w. AppliesAt dom (world_step x.0 step).0 (y.1 ++ applied_in dom w step)) (sym same) (step-applies x.0 dom y.1 step k a))

first-applies : (setup : Setup) (dom : ℕ) → AppliesAt dom (first_world setup) []
first-applies setup dom c at =
    let none : c.count ≡ 0 = find-each (λ (x : Chip). x.count ≡ 0) (λ x. x.dom == dom) (first_chips setup.domains) c (all-new (chip_domains setup.domains)) at in
    record { table = refl; synchronous = refl; deferred = sym (ap (λ n. take {A = Change} n []) none) }
  where
    all-new : (ds : List ℕ) → AllByRecursion (λ (x : Chip). x.count ≡ 0) (map first_chip ds)
    all-new [] = tt
    all-new (d ∷ ds) = (refl, all-new ds)

pub run-applies : (setup : Setup) (steps : List Step) (dom : ℕ) (c : Chip) → chip_at (run setup steps).0 dom ≡ Some c
    → Applies setup.domains.edition (run setup steps).0.history c.count (applied setup dom steps)
unfolding run applied
run-applies setup steps dom c at =
    subst (λ (s : Setup). Applies s.domains.edition (run setup steps).0.history c.count (applied setup dom steps)) (run-setup setup steps)
    (fold-applies dom (first_world setup, []) (first_world setup, []) steps refl (first-world setup) (first-applies setup dom) c at)

-- there is a chip for just each domain that exists
pub run-chips : (setup : Setup) (steps : List Step) (dom : ℕ) → is_some (chip_at (run setup steps).0 dom) ≡ has_chip setup.domains dom
run-chips setup steps dom =
    chip-there (run setup steps).0.chips dom ∙ ap (list_any (λ d. d == dom)) ((run-world setup steps).doms ∙ ap (λ (s : Setup). chip_domains s.domains) (run-setup setup steps))
