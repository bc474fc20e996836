-- Each line stands under its step.
use Rattle.std.proofs.Common.{◌≡◌, ℕ, ◌+◌, ◌<◌, ◌≤◌, cond, List, [], ◌∷◌, ◌++◌, length, refl, sym, ap, subst, ◌∙◌, arith, append-nil}
use Rattle.std.specs.Prelude.{◌==◌}
use Rattle.std.specs.List.{AllByRecursion, fold}
use Rattle.std.specs.declared.result.Result.{Result}
use Rattle.std.specs.declared.result.Result.TheVariants.{Ok, Err}
use Rattle.std.proofs.lemmas.Bool.{ne_eqb}
use Rattle.std.proofs.lemmas.List.Elements.{filter-append}
use Rattle.std.proofs.lemmas.List.Sums.{fold-append}
use Rattle.lemmas.proofs.Numbers.{eqb-itself}
use Rattle.br_model.specs.declared.steps.Event.TheVariants as events
use Rattle.br_model.specs.declared.steps.Refusal.{Refusal}
use Rattle.br_model.specs.declared.steps.Step.{Step}
use Rattle.br_model.specs.Control.Reaction.{Reaction}
use Rattle.br_model.specs.Plane.Runs.{run}
use Rattle.br_model.specs.Plane.Steps.{world_step}
use Rattle.br_model.specs.Plane.World.{World, Stepped, answered, first_world, reacts}
use Rattle.br_model.specs.Table.Setup.{Setup}
use Rattle.br_model.proofs.Plane.StepEnds.{Ends, does-ends, ends_answered, ends_applied, ends_entered, ends_held, ends_idle, ends_published, ends_refused, ends_sent, ends_unread}
use Rattle.driver_notices.specs.declared.line.NoticeLine.{NoticeLine}
use Rattle.driver_notices.specs.Notices.{lines, lines_in, notes}
use Rattle.driver_notices.specs.Views.{of_step, step_of}
use Rattle.driver_notices.proofs.RunLines.{first-notes}
use Rattle.driver_notices.proofs.StepLines.{step-steps}

-- Steps are counted.

answered-steps : (w v : World) (answer : Result Reaction Refusal) → v.steps ≡ w.steps → (answered w v answer).0.steps ≡ w.steps
answered-steps w v (Err why) same = refl
answered-steps w v (Ok r) same = same

ends-steps : (w : World) {step : Step} {y : Stepped} → Ends w step y → y.0.steps ≡ w.steps
ends-steps w (ends_refused why) = refl
ends-steps w (ends_unread port bytes why is) = refl
ends-steps w (ends_entered port bytes n) = refl
ends-steps w (ends_held f later is) = refl
ends-steps w (ends_sent f held waiting point leaves) =
    let v = record w { held = held; waiting = waiting } in answered-steps v v (reacts v (events.Sight f.port f.bytes f.head)) refl
ends-steps w (ends_applied dom c d at is) = refl
ends-steps w (ends_idle dom) = refl
ends-steps w (ends_answered chips e answers) = answered-steps w (record w { chips = chips }) (reacts w e) refl
ends-steps w ends_published = refl

pub step-count : (w : World) (step : Step) → (world_step w step).0.steps ≡ w.steps + 1
step-count w step = let u = record w { steps = w.steps + 1 } in ends-steps u (does-ends u step)

fold-count : (x : World × List NoticeLine) (steps : List Step) → (fold notes x steps).0.steps ≡ x.0.steps + length steps
fold-count x [] = omega arith
fold-count x (step ∷ steps) = let more = fold-count (notes x step) steps in let once = step-count x.0 step in omega (arith, more, once)

-- Lines of other steps, and of this one.

others : (n : ℕ) (ls : List NoticeLine) → AllByRecursion (λ l. (step_of l ≡ n) → ⊥) ls → of_step n ls ≡ []
others n [] none = refl
others n (l ∷ ls) none = ap (λ b. cond b (l ∷ of_step n ls) (of_step n ls)) (ne_eqb (step_of l) n none.0) ∙ others n ls none.1

own : (n : ℕ) (ls : List NoticeLine) → AllByRecursion (λ l. step_of l ≡ n) ls → of_step n ls ≡ ls
own n [] are = refl
own n (l ∷ ls) are =
    ap (λ m. cond (m == n) (l ∷ of_step n ls) (of_step n ls)) are.0
    ∙ ap (λ b. cond b (l ∷ of_step n ls) (of_step n ls)) (eqb-itself n)
    ∙ ap (λ k. l ∷ k) (own n ls are.1)

differ : (m n : ℕ) (ls : List NoticeLine) → ((m ≡ n) → ⊥) → AllByRecursion (λ l. step_of l ≡ m) ls → AllByRecursion (λ l. (step_of l ≡ n) → ⊥) ls
differ m n [] apart are = tt
differ m n (l ∷ ls) apart are = (λ e. apart (sym are.0 ∙ e), differ m n ls apart are.1)

-- Later steps add no lines of this one.
later : (n : ℕ) (x : World × List NoticeLine) (steps : List Step) → n ≤ x.0.steps → of_step n (fold notes x steps).1 ≡ of_step n x.1
later n x [] le = refl
later n x (step ∷ steps) le =
    let once = step-count x.0 step in
    later n (notes x step) steps (omega (arith, le, once))
    ∙ filter-append (λ l. step_of l == n) x.1 (lines_in x.0 step)
    ∙ ap (λ l. of_step n x.1 ++ l) (others n (lines_in x.0 step) (differ (x.0.steps + 1) n (lines_in x.0 step) (λ e. omega (arith, le, e)) (step-steps x.0 step)))
    ∙ append-nil (of_step n x.1)

-- Those before haven't any.
before-none : (n : ℕ) (x : World × List NoticeLine) (steps : List Step) → x.0.steps + length steps < n → of_step n x.1 ≡ [] → of_step n (fold notes x steps).1 ≡ []
before-none n x [] lt none = none
before-none n x (step ∷ steps) lt none =
    let once = step-count x.0 step in
    before-none n (notes x step) steps (omega (arith, lt, once))
    (filter-append (λ l. step_of l == n) x.1 (lines_in x.0 step)
    ∙ ap (λ l. l ++ of_step n (lines_in x.0 step)) none
    ∙ others n (lines_in x.0 step) (differ (x.0.steps + 1) n (lines_in x.0 step) (λ e. omega (arith, lt, e)) (step-steps x.0 step)))

pub run-own : (setup : Setup) (before : List Step) (step : Step) (after : List Step)
    → of_step (length before + 1) (lines setup (before ++ step ∷ after)) ≡ lines_in (run setup before).0 step
unfolding lines
run-own setup before step after =
    let n = length before + 1 in
    let first : World × List NoticeLine = (first_world setup, []) in
    let x = fold notes first before in
    let count : x.0.steps ≡ length before = let e : 0 + length before ≡ length before = omega arith in fold-count first before ∙ e in
    let once = step-count x.0 step in
    ap (λ (y : World × List NoticeLine). of_step n y.1) (fold-append notes first before (step ∷ after))
    ∙ later n (notes x step) after (omega (arith, count, once))
    ∙ filter-append (λ l. step_of l == n) x.1 (lines_in x.0 step)
    ∙ ap (λ l. l ++ of_step n (lines_in x.0 step)) (before-none n first before (omega arith) refl)
    ∙ own n (lines_in x.0 step) (subst (λ m. AllByRecursion (λ l. step_of l ≡ m + 1) (lines_in x.0 step)) count (step-steps x.0 step))
    ∙ ap (λ w. lines_in w step) (first-notes setup before)
