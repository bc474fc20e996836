-- What a step leaves of what was accepted, published and held.
use Rattle.std.proofs.Common.{◌≡◌, ℕ, ◌+◌, true, false, cond, List, [], ◌∷◌, ◌++◌, length, Option, None, Some, refl, sym, ap, ◌∙◌}
use Rattle.std.proofs.lemmas.Bool.{or_left}
use Rattle.std.proofs.lemmas.List.{append-nil}
use Rattle.std.proofs.lemmas.List.Folds.{list_any-append}
use Rattle.std.specs.Prelude.{◌==◌}
use Rattle.std.specs.Ordering.{nat_cmp, eq_by_cmp}
use Rattle.std.specs.declared.result.Result.{Result}
use Rattle.std.specs.declared.result.Result.TheVariants.{Ok, Err}
use Rattle.br_model.specs.declared.change.Change.{Change}
use Rattle.br_model.specs.declared.steps.Event.TheVariants as events
use Rattle.br_model.specs.declared.steps.Refusal.{Refusal}
use Rattle.br_model.specs.declared.steps.Step.{Step}
use Rattle.br_model.specs.declared.steps.Step.TheVariants.{Hold, Post}
use Rattle.br_model.specs.Control.Reaction.{Reaction}
use Rattle.br_model.specs.Data.Maps.{has}
use Rattle.br_model.specs.Plane.Chip.{Chip}
use Rattle.br_model.specs.Plane.Serving.{holds, held_with, lets_go, posts_at}
use Rattle.br_model.specs.Plane.Steps.{world_step, publishes}
use Rattle.br_model.specs.Plane.World.{World, Waiting, Holding, Stepped, answered, reacts}
use Rattle.br_model.proofs.Plane.StepEnds.{Ends, does-ends, ends_answered, ends_applied, ends_entered, ends_held, ends_idle, ends_published, ends_refused, ends_sent, ends_unread}
use Rattle.br_model.proofs.Plane.StepEnds.{by_post, by_serve}

-- a count that was published stays one
has-more : (counts more : List ℕ) (p : ℕ) → has nat_cmp counts p ≡ true → has nat_cmp (counts ++ more) p ≡ true
has-more counts more p h = list_any-append (eq_by_cmp nat_cmp p) counts more ∙ or_left (has nat_cmp counts p) (has nat_cmp more p) h

publishes-counts : (w : World) (n p : ℕ) → has nat_cmp w.counts p ≡ true → has nat_cmp (publishes w n).counts p ≡ true
publishes-counts w n p h =
    elim (n == w.published) as (λ b. has nat_cmp (cond b w.counts (w.counts ++ n ∷ [])) p ≡ true) [
      | true ↦ h
      | false ↦ has-more w.counts (n ∷ []) p h
    ]

-- Changes are accepted behind those that were, and counts are published beside those that were.
abbrev pub Stays : World → World → Type 0
Stays w v =
    (changes : List Change) × (v.setup ≡ w.setup) × (v.history ≡ w.history ++ changes) × ((p : ℕ) → has nat_cmp w.counts p ≡ true → has nat_cmp v.counts p ≡ true)

idle : (w : World) → Stays w w
idle w = ([], refl, sym (append-nil w.history), λ p h. h)

answered-stays : (w : World) (chips : List Chip) (answer : Result Reaction Refusal) → Stays w (answered w (record w { chips = chips }) answer).0
answered-stays w chips (Err why) = idle w
answered-stays w chips (Ok r) = (r.changes, refl, refl, λ p h. h)

pub ends-stays : (w : World) {step : Step} {y : Stepped} → Ends w step y → Stays w y.0
ends-stays w (ends_refused why) = idle w
ends-stays w (ends_unread port bytes why is) = idle w
ends-stays w (ends_entered port bytes n) = idle w
ends-stays w (ends_held f later is) = idle w
ends-stays w (ends_sent f held waiting point leaves) =
    answered-stays (record w { held = held; waiting = waiting }) w.chips (reacts w (events.Sight f.port f.bytes f.head))
ends-stays w (ends_applied dom c d at is) = idle w
ends-stays w (ends_idle dom) = idle w
ends-stays w (ends_answered chips e answers) = answered-stays w chips (reacts w e)
ends-stays w ends_published = ([], refl, sym (append-nil w.history), publishes-counts w (length w.history))

pub step-stays : (w : World) (step : Step) → Stays w (world_step w step).0
step-stays w step = let u = record w { steps = w.steps + 1 } in ends-stays u (does-ends u step)

-- the changes that it accepts stand behind those that were
abbrev pub Accepts : World → Step → Type 0
Accepts w step = (changes : List Change) × ((world_step w step).0.history ≡ w.history ++ changes)

pub step-accepts : (w : World) (step : Step) → Accepts w step
step-accepts w step = let s = step-stays w step in (s.0, s.2)

pub step-counts : (w : World) (step : Step) (p : ℕ) → has nat_cmp w.counts p ≡ true → has nat_cmp (world_step w step).0.counts p ≡ true
step-counts w step = (step-stays w step).3

-- the frames that are held after it, where it isn't a post
abbrev pub HeldAfter : World → Step → Type 0
HeldAfter w (Post id point) = Unit {0}
HeldAfter w Hold = (world_step w Hold).0.held ≡ (holds w w.waiting).0.held
HeldAfter w step = (world_step w step).0.held ≡ w.held

holds-held : (w : World) (n : ℕ) (fs : List Waiting) → (holds (record w { steps = n }) fs).0.held ≡ (holds w fs).0.held
holds-held w n [] = refl
holds-held w n (f ∷ later) = refl

answered-held : (w : World) (chips : List Chip) (answer : Result Reaction Refusal) → (answered w (record w { chips = chips }) answer).0.held ≡ w.held
answered-held w chips (Err why) = refl
answered-held w chips (Ok r) = refl

abbrev HoldsOn : World → Step → World → Type 0
HoldsOn w (Post id point) v = Unit {0}
HoldsOn w Hold v = Unit {0}
HoldsOn w step v = v.held ≡ w.held

holds-on : (w : World) (step : Step) (v : World) → v.held ≡ w.held → HoldsOn w step v
holds-on w (Post id point) v same = tt
holds-on w Hold v same = tt
holds-on w step v same = same

ends-held : (w : World) {step : Step} {y : Stepped} → Ends w step y → HoldsOn w step y.0
ends-held w {step} (ends_refused why) = holds-on w step w refl
ends-held w (ends_unread port bytes why is) = refl
ends-held w (ends_entered port bytes n) = refl
ends-held w (ends_held f later is) = tt
ends-held w (ends_sent f held waiting point (by_serve g later is)) = answered-held (record w { waiting = later }) w.chips (reacts w (events.Sight f.port f.bytes f.head))
ends-held w (ends_sent f held waiting point (by_post id named h at is names decided)) = tt
ends-held w (ends_applied dom c d at is) = refl
ends-held w (ends_idle dom) = refl
ends-held w {step} (ends_answered chips e answers) = holds-on w step _ (answered-held w chips (reacts w e))
ends-held w ends_published = refl

pub step-held : (w : World) (step : Step) → HeldAfter w step
step-held w (Post id point) = tt
step-held w Hold = holds-held w (w.steps + 1) w.waiting
step-held w step = let u = record w { steps = w.steps + 1 } in ends-held u (does-ends u step)

-- a held frame that is posted by its floor is let go
pub post-held : (w : World) (id : ℕ) (h : Holding) → held_with w id ≡ Some h → (world_step w (Post id None)).0.held ≡ (lets_go w h.waiting.id).held
post-held w id h is =
    let f = h.waiting in
    ap (λ (o : Option Holding). (posts_at (record w { steps = w.steps + 1 }) o None).0.held) is
    ∙ answered-held (lets_go (record w { steps = w.steps + 1 }) f.id) w.chips (reacts w (events.Sight f.port f.bytes f.head))

-- and one that isn't held changes nothing of those that are
pub post-none-held : (w : World) (id : ℕ) → held_with w id ≡ None → (world_step w (Post id None)).0.held ≡ w.held
post-none-held w id is = ap (λ (o : Option Holding). (posts_at (record w { steps = w.steps + 1 }) o None).0.held) is
