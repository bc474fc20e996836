-- What each reaction keeps of the history and the control state, each run keeps.
use Rattle.std.proofs.Common.{◌≡◌, ◌+◌, List, [], ◌∷◌, ◌++◌, refl}
use Rattle.std.specs.List.{fold}
use Rattle.std.specs.declared.result.Result.{Result}
use Rattle.std.specs.declared.result.Result.TheVariants.{Ok, Err}
use Rattle.br_model.specs.declared.change.Change.{Change}
use Rattle.br_model.specs.declared.steps.Event.{Event}
use Rattle.br_model.specs.declared.steps.Event.TheVariants as events
use Rattle.br_model.specs.declared.steps.Refusal.{Refusal}
use Rattle.br_model.specs.declared.steps.Step.{Step}
use Rattle.br_model.specs.Control.Control.{Control, first_control}
use Rattle.br_model.specs.Control.Reaction.{Reaction}
use Rattle.br_model.specs.Plane.Chip.{Chip}
use Rattle.br_model.specs.Plane.Runs.{run, then_step}
use Rattle.br_model.specs.Plane.World.{World, Stepped, first_world, answered, reacts}
use Rattle.br_model.specs.Table.Setup.{Setup}
use Rattle.br_model.proofs.Plane.StepEnds.{Ends, does-ends, ends_answered, ends_applied, ends_entered, ends_held, ends_idle, ends_published, ends_refused, ends_sent, ends_unread}

module _
    (Q : List Change → Control → Type 0)
    (by-event : (w : World) (e : Event) (r : Reaction) → Q w.history w.control → reacts w e ≡ Ok r → Q (w.history ++ r.changes) r.control)
  where
    abbrev In : World → Type 0
    In w = Q w.history w.control

    answered-keeps : (w : World) (chips : List Chip) (e : Event) (answer : Result Reaction Refusal) → reacts w e ≡ answer → In w → In (answered w (record w { chips = chips }) answer).0
    answered-keeps w chips e (Err why) is q = q
    answered-keeps w chips e (Ok r) is q = by-event w e r q is

    ends-keep : (w : World) {step : Step} {y : Stepped} → Ends w step y → In w → In y.0
    ends-keep w (ends_refused why) q = q
    ends-keep w (ends_unread port bytes why is) q = q
    ends-keep w (ends_entered port bytes n) q = q
    ends-keep w (ends_held f later is) q = q
    ends-keep w (ends_sent f held waiting point leaves) q =
        let e = events.Sight f.port f.bytes f.head in answered-keeps (record w { held = held; waiting = waiting }) w.chips e (reacts w e) refl q
    ends-keep w (ends_applied dom c d at is) q = q
    ends-keep w (ends_idle dom) q = q
    ends-keep w (ends_answered chips e answers) q = answered-keeps w chips e (reacts w e) refl q
    ends-keep w ends_published q = q

    fold-keeps : (x : Stepped) (steps : List Step) → In x.0 → In (fold then_step x steps).0
    fold-keeps x [] q = q
    fold-keeps x (step ∷ steps) q = fold-keeps (then_step x step) steps (let w = record x.0 { steps = x.0.steps + 1 } in ends-keep w (does-ends w step) q)

    pub run-keeps : (setup : Setup) (steps : List Step) → Q [] (first_control setup.own) → Q (run setup steps).0.history (run setup steps).0.control
    unfolding run
    run-keeps setup steps q = fold-keeps (first_world setup, []) steps q
