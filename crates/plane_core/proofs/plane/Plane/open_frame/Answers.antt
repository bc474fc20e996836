use Rattle.std.proofs.Common.{◌≡◌, ◌+◌, length, sym, ap, ◌∙◌, subst}
use Rattle.br_model.specs.Theorems.Invariants.{IsWorld}
use Rattle.plane_core.specs.Sides.{world_of}
use Rattle.plane_core.specs.declared.plane.Plane.TheInside.{Inside}
use Rattle.plane_core.proofs.Calling.{stands_held}
use Rattle.plane_core.proofs.plane.Plane.open_frame.Goals as goal
use Rattle.plane_core.proofs.plane.Plane.open_frame.Goals.{in-Some+in_ok-of-in-Some, in-None}

-- the look at the oldest frame changes nothing
same : (c : goal.After-self-1) → c.match-oldest.self-inside ≡ c.self.inside
same c = elim c.match-oldest.branch [ in-Some+in_ok-of-in-Some w ↦ w.self-inside-is | in-None w ↦ w.self-inside-is ]

pub invariant_of-self-2 : goal.invariant_of-self-2
invariant_of-self-2 c =
    let then = c.match-oldest.self-inside in
    stands_held then.sides then.frames c.hold.new.self then.steps c.in_ok-step.step c.published-floor.result
    (c.in_ok-step.ensures ∙ ap (λ (i : Inside). i.steps + 1) (sym (same c)))
    (c.published-floor.ensures ∙ ap (λ (i : Inside). length i.sides.published.changes) (sym (same c)))
    c.in_ok-hold.ensures.ok
    (subst (λ (i : Inside). IsWorld (world_of i.sides i.frames i.steps)) (sym (same c)) c.self.invariant)
