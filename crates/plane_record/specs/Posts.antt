-- The frame that a post names.
use Rattle.std.specs.Prelude.{◌≡◌, ℕ, ◌≤◌, IfSome}
use Rattle.br_model.specs.Plane.Serving.{held_with}
use Rattle.br_model.specs.Plane.World.{World}
use Rattle.plane_core.specs.Shown.{shown_by, shown_of}
use Rattle.plane_core.specs.declared.held.Held.{Held}

-- Where a frame is held under its id, it is that frame, and the point is published.
abbrev pub IsTheHeld : World → Held → ℕ → Type 0
IsTheHeld w h point = IfSome (held_with w h.id) (λ x. (shown_by h ≡ shown_of x) × (point ≤ w.published))
