-- How many updates chips have applied: a turn counts one that waits, and nothing else does.
use Rattle.std.proofs.Common.{◌≡◌, ℕ, zero, suc, ◌+◌, ◌≤◌, ◌<◌, min, true, false, List, [], ◌∷◌, ◌++◌, length, Option, None, Some, refl, sym, ap, ◌∙◌, subst, arith, option_map}
use Rattle.std.proofs.lemmas.Bool.{eqb-true, true≢false}
use Rattle.std.proofs.lemmas.Option.{slice_get_within}
use Rattle.std.specs.Prelude.{◌==◌, is_some, slice_get}
use Rattle.std.specs.List.{AllByRecursion, list_any}
use Rattle.std.specs.Option.{option_map_or}
use Rattle.std.specs.declared.result.Result.{Result}
use Rattle.std.specs.declared.result.Result.TheVariants.{Ok, Err}
use Rattle.br_model.specs.declared.change.Change.{Change}
use Rattle.br_model.specs.declared.steps.Event.TheVariants as events
use Rattle.br_model.specs.declared.steps.Refusal.{Refusal}
use Rattle.br_model.specs.declared.steps.Step.{Step}
use Rattle.br_model.specs.declared.steps.Step.TheVariants.{Turn, Publish}
use Rattle.br_model.specs.Control.Reaction.{Reaction}
use Rattle.br_model.specs.Plane.Chip.{Chip, applies}
use Rattle.br_model.specs.Plane.ChipSteps.{turns, turns_to}
use Rattle.br_model.specs.Plane.Runs.{then_step}
use Rattle.br_model.specs.Plane.Steps.{world_step}
use Rattle.br_model.specs.Plane.Traits.{traits}
use Rattle.br_model.specs.Plane.World.{World, Waiting, Stepped, answered, chip_at, next_of, reacts}
use Rattle.br_model.specs.Table.Cut.{deferred_count, deferred_of}
use Rattle.br_model.specs.Table.Domains.{has_chip}
use Rattle.br_model.specs.Table.Setup.{Setup}
use Rattle.br_model.specs.Theorems.Invariants.{IsWorld}
use Rattle.br_model.proofs.Plane.Applying.{deferred_count-append}
use Rattle.br_model.proofs.Plane.Chips.{CountsStay, chip-dom, chip-there, counts-same, doms, put-other, put-same}
use Rattle.br_model.proofs.Plane.Kept.{answers-counts, chip-stands, enters-counts, hit_by-keeps, step-world}
use Rattle.br_model.proofs.Plane.StepEnds.{Ends, does-ends, ends_answered, ends_applied, ends_entered, ends_held, ends_idle, ends_published, ends_refused, ends_sent, ends_unread}
use Rattle.br_model.proofs.Plane.Stays.{step-stays}
use Rattle.timings.specs.Explained.{count_at, updates_in}
use Rattle.timings.specs.Greedy.{repeated}
use Rattle.timings.specs.Timings.{Alike, Seen, Commands, Comes, Enters, linux_steps, plays, played, serving, step_of, turned}
use Rattle.timings.proofs.Playing.{alike-then}
use Rattle.timings.proofs.Turning.{same, turn-alike}

-- The chip of a domain that has one.

pub there-count : (w : World) (dom : ℕ) (c : Chip) → chip_at w dom ≡ Some c → count_at w dom ≡ c.count
there-count w dom c e = ap (λ (o : Option Chip). option_map_or (λ (c : Chip). c.count) o 0) e

pub no-count : (w : World) (dom : ℕ) → chip_at w dom ≡ None → count_at w dom ≡ 0
no-count w dom e = ap (λ (o : Option Chip). option_map_or (λ (c : Chip). c.count) o 0) e

counts-of : (o p : Option Chip) → option_map (λ (c : Chip). c.count) o ≡ option_map (λ (c : Chip). c.count) p
    → option_map_or (λ (c : Chip). c.count) o 0 ≡ option_map_or (λ (c : Chip). c.count) p 0
counts-of None None e = refl
counts-of None (Some d) e = absurd (cc)
counts-of (Some c) None e = absurd (cc)
counts-of (Some c) (Some d) e = ap (λ (o : Option ℕ). option_map_or (λ (n : ℕ). n) o 0) e

-- What every step but a turn leaves.

answered-stay : (w : World) (chips : List Chip) (answer : Result Reaction Refusal) → CountsStay w.chips chips → CountsStay w.chips (answered w (record w { chips = chips }) answer).0.chips
answered-stay w chips (Err why) counts = counts-same w.chips
answered-stay w chips (Ok r) counts = counts

ends-stay : (w : World) {step : Step} {y : Stepped} → (traits step).turn ≡ None → Ends w step y → CountsStay w.chips y.0.chips
ends-stay w none (ends_refused why) = counts-same w.chips
ends-stay w none (ends_unread port bytes why is) = counts-same w.chips
ends-stay w none (ends_entered port bytes n) = enters-counts w port bytes n.head n.enters
ends-stay w none (ends_held f later is) = counts-same w.chips
ends-stay w none (ends_sent f held waiting point leaves) =
    let v = record w { held = held; waiting = waiting } in answered-stay v w.chips (reacts v (events.Sight f.port f.bytes f.head)) (counts-same w.chips)
ends-stay w none (ends_applied dom c d at is) = absurd (cc)
ends-stay w none (ends_idle dom) = counts-same w.chips
ends-stay w none (ends_answered chips e answers) = answered-stay w chips (reacts w e) (answers-counts w answers)
ends-stay w none ends_published = counts-same w.chips

pub step-counts-stay : (w : World) (step : Step) (dom : ℕ) → (traits step).turn ≡ None → count_at (world_step w step).0 dom ≡ count_at w dom
step-counts-stay w step dom none =
    let u = record w { steps = w.steps + 1 } in
    counts-of (chip_at (world_step w step).0 dom) (chip_at w dom) (ends-stay u none (does-ends u step) dom)

-- What a turn does.

past-end : (xs : List Change) (i : ℕ) → slice_get xs i ≡ None → length xs ≤ i
past-end [] i e = omega arith
past-end (x ∷ xs) zero e = absurd (cc)
past-end (x ∷ xs) (suc i) e = omega (arith, past-end xs i e)

turns_to-own : (w : World) (dom : ℕ) (c : Chip) (o : Option Change) → chip_at w dom ≡ Some c → next_of w c ≡ o → c.count ≤ updates_in w
    → count_at (turns_to w c o).0 dom ≡ min (c.count + 1) (updates_in w)
turns_to-own w dom c None at is most =
    let past : updates_in w ≤ c.count = past-end (deferred_of w.setup.domains.edition w.history) c.count is in
    omega (arith, past, most, there-count w dom c at)
turns_to-own w dom c (Some d) at is most =
    let less : c.count < updates_in w = slice_get_within (deferred_of w.setup.domains.edition w.history) c.count d is in
    let keep = hit_by-keeps (record c { count = c.count + 1 }) d in
    let v = (turns_to w c (Some d)).0 in
    let now : chip_at v dom ≡ Some (applies c d) = put-same w.chips (applies c d) dom c (keep.dom ∙ chip-dom w.chips dom c at) at in
    omega (arith, there-count v dom (applies c d) now, keep.count, less)

turns-own : (w : World) (dom : ℕ) (c : Chip) → chip_at w dom ≡ Some c → c.count ≤ updates_in w → count_at (turns w (chip_at w dom)).0 dom ≡ min (c.count + 1) (updates_in w)
turns-own w dom c at most =
    subst (λ (o : Option Chip). count_at (turns w o).0 dom ≡ min (c.count + 1) (updates_in w)) (sym at) (turns_to-own w dom c (next_of w c) at refl most)

pub turn-own : (w : World) (dom : ℕ) (c : Chip) → chip_at w dom ≡ Some c → c.count ≤ updates_in w → count_at (world_step w (Turn dom)).0 dom ≡ min (c.count + 1) (updates_in w)
turn-own w dom c at most = turns-own (record w { steps = w.steps + 1 }) dom c at most

turns_to-other : (w : World) (dom e : ℕ) (c : Chip) (o : Option Change) → chip_at w e ≡ Some c → (e == dom) ≡ false → count_at (turns_to w c o).0 dom ≡ count_at w dom
turns_to-other w dom e c None at other = refl
turns_to-other w dom e c (Some d) at other =
    let own = (hit_by-keeps (record c { count = c.count + 1 }) d).dom ∙ chip-dom w.chips e c at in
    ap (λ (o : Option Chip). option_map_or (λ (c : Chip). c.count) o 0) (put-other w.chips (applies c d) dom (ap (λ n. n == dom) own ∙ other))

turns-other : (w : World) (dom e : ℕ) (o : Option Chip) → chip_at w e ≡ o → (e == dom) ≡ false → count_at (turns w o).0 dom ≡ count_at w dom
turns-other w dom e None at other = refl
turns-other w dom e (Some c) at other = turns_to-other w dom e c (next_of w c) at other

pub turn-other : (w : World) (dom e : ℕ) → (e == dom) ≡ false → count_at (world_step w (Turn e)).0 dom ≡ count_at w dom
turn-other w dom e other = turns-other (record w { steps = w.steps + 1 }) dom e (chip_at w e) refl other

turn-none : (w : World) (dom : ℕ) → chip_at w dom ≡ None → count_at (world_step w (Turn dom)).0 dom ≡ count_at w dom
turn-none w dom at = ap (λ (o : Option Chip). count_at (turns (record w { steps = w.steps + 1 }) o).0 dom) at

-- no chip has applied more than there is
pub count-most : (w : World) (dom : ℕ) → IsWorld w → count_at w dom ≤ updates_in w
count-most w dom k = by (chip_at w dom) refl
  where
    by : (o : Option Chip) → chip_at w dom ≡ o → count_at w dom ≤ updates_in w
    by None e = omega (arith, no-count w dom e)
    by (Some c) e = omega (arith, there-count w dom c e, (chip-stands w dom c k e).applied)

pub turn-grows : (w : World) (dom e : ℕ) → IsWorld w → count_at w dom ≤ count_at (world_step w (Turn e)).0 dom
turn-grows w dom e k =
    (elim (e == dom) as (λ b. (e == dom) ≡ b → count_at w dom ≤ count_at (world_step w (Turn e)).0 dom) [
      | true ↦ λ is. subst (λ n. count_at w dom ≤ count_at (world_step w (Turn n)).0 dom) (sym (eqb-true e dom is)) (by (chip_at w dom) refl)
      | false ↦ λ other. omega (arith, turn-other w dom e other)
    ]) refl
  where
    by : (o : Option Chip) → chip_at w dom ≡ o → count_at w dom ≤ count_at (world_step w (Turn dom)).0 dom
    by None at = omega (arith, turn-none w dom at)
    by (Some c) at = omega (arith, turn-own w dom c at (chip-stands w dom c k at).applied, there-count w dom c at, (chip-stands w dom c k at).applied)

-- Updates grow only.

pub step-updates : (w : World) (step : Step) → updates_in w ≤ updates_in (world_step w step).0
step-updates w step =
    let s = step-stays w step in
    let same : updates_in (world_step w step).0 ≡ deferred_count w.setup.domains.edition (w.history ++ s.0) = λ i. deferred_count (s.1 i).domains.edition (s.2 i) in
    omega (arith, same, deferred_count-append w.setup.domains.edition w.history s.0)

pub alike-updates : (w v : World) → Alike w v → updates_in w ≡ updates_in v
alike-updates w v a i = deferred_count (a.setup i).domains.edition (a.history i)

-- Turns in a row.

pub turned-world : (x : Stepped) (doms : List ℕ) → IsWorld x.0 → IsWorld (turned x doms).0
turned-world x [] k = k
turned-world x (e ∷ doms) k = turned-world (then_step x (Turn e)) doms (step-world x.0 (Turn e) k)

pub turned-alike : (x : Stepped) (doms : List ℕ) → Alike (turned x doms).0 x.0
turned-alike x [] = same x.0
turned-alike x (e ∷ doms) = alike-then (turned-alike (then_step x (Turn e)) doms) (turn-alike x.0 e)

pub turned-updates : (x : Stepped) (doms : List ℕ) → updates_in (turned x doms).0 ≡ updates_in x.0
turned-updates x doms = alike-updates (turned x doms).0 x.0 (turned-alike x doms)

pub turned-grows : (x : Stepped) (doms : List ℕ) (dom : ℕ) → IsWorld x.0 → count_at x.0 dom ≤ count_at (turned x doms).0 dom
turned-grows x [] dom k = omega arith
turned-grows x (e ∷ doms) dom k = omega (arith, turn-grows x.0 dom e k, turned-grows (then_step x (Turn e)) doms dom (step-world x.0 (Turn e) k))

-- there is a chip for just each domain that exists
pub there-has : (w : World) (dom : ℕ) → IsWorld w → is_some (chip_at w dom) ≡ has_chip w.setup.domains dom
there-has w dom k = chip-there w.chips dom ∙ ap (list_any (λ d. d == dom)) k.doms

pub there-alike : (w v : World) (dom : ℕ) → Alike w v → IsWorld w → IsWorld v → is_some (chip_at w dom) ≡ is_some (chip_at v dom)
there-alike w v dom a k l = there-has w dom k ∙ ap (λ (s : Setup). has_chip s.domains dom) a.setup ∙ sym (there-has v dom l)

pub some-of : {X : Type 0} (o : Option X) → is_some o ≡ true → (x : X) × (o ≡ Some x)
some-of None e = absurd (true≢false (sym e))
some-of (Some x) e = (x, refl)

pub turn-counts : (w : World) (dom : ℕ) → IsWorld w → is_some (chip_at w dom) ≡ true → count_at (world_step w (Turn dom)).0 dom ≡ min (count_at w dom + 1) (updates_in w)
turn-counts w dom k there =
    let c = some-of (chip_at w dom) there in
    turn-own w dom c.0 c.1 (chip-stands w dom c.0 k c.1).applied ∙ ap (λ n. min (n + 1) (updates_in w)) (sym (there-count w dom c.0 c.1))

pub repeated-own : (x : Stepped) (dom n : ℕ) → IsWorld x.0 → is_some (chip_at x.0 dom) ≡ true
    → count_at (turned x (repeated dom n)).0 dom ≡ min (count_at x.0 dom + n) (updates_in x.0)
repeated-own x dom zero k there = omega (arith, count-most x.0 dom k)
repeated-own x dom (suc n) k there =
    let y = then_step x (Turn dom) in
    let a = turn-alike x.0 dom in
    let l = step-world x.0 (Turn dom) k in
    let c = some-of (chip_at x.0 dom) there in
    omega (
      arith,
      repeated-own y dom n l (there-alike y.0 x.0 dom a l k ∙ there),
      turn-own x.0 dom c.0 c.1 (chip-stands x.0 dom c.0 k c.1).applied,
      there-count x.0 dom c.0 c.1,
      alike-updates y.0 x.0 a,
      count-most x.0 dom k,
    )

pub repeated-other : (x : Stepped) (e n dom : ℕ) → (e == dom) ≡ false → count_at (turned x (repeated e n)).0 dom ≡ count_at x.0 dom
repeated-other x e zero dom other = refl
repeated-other x e (suc n) dom other = repeated-other (then_step x (Turn e)) e n dom other ∙ turn-other x.0 dom e other

-- What Linux plays keeps counts.

abbrev NoTurn : Step → Type 0
NoTurn s = (traits s).turn ≡ None

played-counts : (x : Stepped) (steps : List Step) (dom : ℕ) → AllByRecursion NoTurn steps → count_at (played x steps).0 dom ≡ count_at x.0 dom
played-counts x [] dom all = refl
played-counts x (s ∷ steps) dom all = played-counts (then_step x s) steps dom all.1 ∙ step-counts-stay x.0 s dom all.0

serving-none : (fs : List Waiting) → AllByRecursion NoTurn (serving fs)
serving-none [] = tt
serving-none (f ∷ later) = (refl, (refl, tt))

seen-none : (s : Seen) → NoTurn (step_of s)
seen-none (Commands c) = refl
seen-none (Comes moment) = refl
seen-none (Enters port bytes) = refl

pub plays-counts : (x : Stepped) (s : Seen) (dom : ℕ) → count_at (plays x s).0 dom ≡ count_at x.0 dom
plays-counts x s dom = played-counts x (linux_steps x.0 s) dom (seen-none s, (refl, serving-none (world_step (world_step x.0 (step_of s)).0 Publish).0.waiting))

pub played-updates : (x : Stepped) (steps : List Step) → updates_in x.0 ≤ updates_in (played x steps).0
played-updates x [] = omega arith
played-updates x (s ∷ steps) = omega (arith, step-updates x.0 s, played-updates (then_step x s) steps)
