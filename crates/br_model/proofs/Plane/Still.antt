-- Steps that accept nothing: a frame enters or is held, a chip applies a change, the tables are published.
use Rattle.std.proofs.Common.{◌≡◌, ℕ, ◌+◌, Bool, true, false, List, refl}
use Rattle.br_model.specs.declared.steps.Step.{Step}
use Rattle.br_model.specs.declared.steps.Step.TheVariants.{Rx, Hold, Turn, Publish}
use Rattle.br_model.specs.Plane.Steps.{world_step}
use Rattle.br_model.specs.Plane.World.{World, Stepped}
use Rattle.br_model.proofs.Plane.StepEnds.{by_command, by_moment, by_post, by_report, by_serve, by_sweep, Ends, does-ends}
use Rattle.br_model.proofs.Plane.StepEnds.{ends_answered, ends_applied, ends_entered, ends_held, ends_idle, ends_published, ends_refused, ends_sent, ends_unread}

abbrev is_still : Step → Bool
is_still (Rx port bytes) = true
is_still Hold = true
is_still (Turn dom) = true
is_still Publish = true
is_still step = false

ends-history : (w : World) {step : Step} {y : Stepped} → Ends w step y → is_still step ≡ true → y.0.history ≡ w.history
ends-history w (ends_refused why) still = refl
ends-history w (ends_unread port bytes why is) still = refl
ends-history w (ends_entered port bytes n) still = refl
ends-history w (ends_held f later is) still = refl
ends-history w (ends_sent f held waiting point (by_serve g later is)) still = absurd (cc)
ends-history w (ends_sent f held waiting point (by_post id named h at is names decided)) still = absurd (cc)
ends-history w (ends_applied dom c d at is) still = refl
ends-history w (ends_idle dom) still = refl
ends-history w (ends_answered chips e (by_command c)) still = absurd (cc)
ends-history w (ends_answered chips e (by_moment moment)) still = absurd (cc)
ends-history w (ends_answered chips e (by_report dom c x later at is)) still = absurd (cc)
ends-history w (ends_answered chips e (by_sweep dom c at)) still = absurd (cc)
ends-history w ends_published still = refl

step-history : (w : World) (step : Step) → is_still step ≡ true → (world_step w step).0.history ≡ w.history
step-history w step still = let u = record w { steps = w.steps + 1 } in ends-history u (does-ends u step) still

pub rx-history : (w : World) (port : ℕ) (bytes : List ℕ) → (world_step w (Rx port bytes)).0.history ≡ w.history
rx-history w port bytes = step-history w (Rx port bytes) refl

pub hold-history : (w : World) → (world_step w Hold).0.history ≡ w.history
hold-history w = step-history w Hold refl

pub turn-history : (w : World) (dom : ℕ) → (world_step w (Turn dom)).0.history ≡ w.history
turn-history w dom = step-history w (Turn dom) refl

pub publish-history : (w : World) → (world_step w Publish).0.history ≡ w.history
publish-history w = refl
