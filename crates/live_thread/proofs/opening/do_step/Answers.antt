use Rattle.std.proofs.Common.{◌≡◌, ℕ, List, [], Option, None, Some, sym, ap, ◌∙◌}
use Rattle.std.specs.Prelude.{◌==◌}
use Rattle.std.specs.List.{find}
use Rattle.br_model.specs.Plane.Serving.{held_with}
use Rattle.br_model.specs.Plane.World.{World, Holding}
use Rattle.plane_record.specs.Pasts.{world_of}
use Rattle.live_thread.proofs.opening.do_step.Goals as goal

-- where none is held, none is found
none_held : (w : World) (id : ℕ) (x : Holding) → w.held ≡ [] → held_with w id ≡ Some x → ⊥
none_held w id x none found =
    let e : None ≡ Some x = sym (ap (λ (hs : List Holding). find (λ h. h.waiting.id == id) hs) none) ∙ found in
    absurd (cc)

pub post_floor-requires : goal.post_floor-requires
post_floor-requires g c x found = none_held (world_of c.args.ran.now) _ x c.requires.held found
