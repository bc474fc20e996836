-- Before the first frame nothing waits and nothing is held.
use Rattle.std.proofs.Common.{◌≡◌, ℕ, ◌+◌, ◌==◌, false, List, [], ◌∷◌, None, Result, Ok, Err, refl, sym, ◌∙◌}
use Rattle.std.specs.List.{find}
use Rattle.br_model.specs.declared.steps.Refusal.{Refusal}
use Rattle.br_model.specs.declared.steps.Step.{Step}
use Rattle.br_model.specs.Control.Reaction.{Reaction}
use Rattle.br_model.specs.Plane.Steps.{world_step}
use Rattle.br_model.specs.Plane.World.{World, Holding, Stepped, answered, reacts}
use Rattle.br_model.specs.Program.LiveRun.{is_frame}
use Rattle.br_model.proofs.Plane.StepEnds.{Ends, does-ends, ends_answered, ends_applied, ends_entered, ends_held, ends_idle, ends_published, ends_refused, ends_sent, ends_unread}
use Rattle.br_model.proofs.Plane.StepEnds.{by_post, by_serve}
use Rattle.live_thread.specs.Worlds.{IsIdle}

answered_idle : (before after : World) (answer : Result Reaction Refusal) → IsIdle before → IsIdle after → IsIdle (answered before after answer).0
answered_idle before after (Err why) i j = i
answered_idle before after (Ok r) i j = record { waiting = j.waiting; held = j.held }

pub none_held : (held : List Holding) (id : ℕ) → held ≡ [] → find (λ h. h.waiting.id == id) held ≡ None
none_held [] id e = refl
none_held (h ∷ held) id e = absurd (cc)

ends_keep : (w : World) {s : Step} {y : Stepped} → Ends w s y → is_frame s ≡ false → IsIdle w → IsIdle y.0
ends_keep w (ends_refused why) none i = i
ends_keep w (ends_unread port bytes why is) none i = absurd (cc)
ends_keep w (ends_entered port bytes n) none i = absurd (cc)
ends_keep w (ends_held f later is) none i = absurd (cc (sym i.waiting ∙ is))
ends_keep w (ends_sent f held waiting point (by_serve g later is)) none i = absurd (cc (sym i.waiting ∙ is))
ends_keep w (ends_sent f held waiting point (by_post id named h at is names decided)) none i = absurd (cc (sym (none_held w.held id i.held) ∙ is))
ends_keep w (ends_applied dom c d at is) none i = record { waiting = i.waiting; held = i.held }
ends_keep w (ends_idle dom) none i = i
ends_keep w (ends_answered chips e answers) none i = answered_idle w (record w { chips = chips }) (reacts w e) i (record { waiting = i.waiting; held = i.held })
ends_keep w ends_published none i = record { waiting = i.waiting; held = i.held }

pub stays_idle : (w : World) (s : Step) → is_frame s ≡ false → IsIdle w → IsIdle (world_step w s).0
stays_idle w s none i = let u = record w { steps = w.steps + 1 } in ends_keep u (does-ends u s) none (record { waiting = i.waiting; held = i.held })
