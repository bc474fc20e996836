-- Software decides a frame by a published point, sends its share, and reacts.
-- Source: the kernel's nbp_switchdev_allowed_egress (the marked domain is left out); holds and points are this profile's, and so
-- is that a frame is sent before it teaches (the kernel learns first).
use Rattle.std.specs.Prelude.{ℕ, ◌==◌, nat_le, Bool, not, ◌&&◌, if◌then◌else◌, List, [], ◌∷◌, ◌++◌}
use Rattle.std.specs.List.{filter, find}
use Rattle.std.specs.declared.option.Option.{Option}
use Rattle.std.specs.declared.option.Option.TheVariants.{None, Some}
use Rattle.std.specs.Ordering.{nat_cmp}
use Rattle.br_model.specs.declared.steps.Event.TheVariants.{Sight}
use Rattle.br_model.specs.declared.steps.Refusal.TheVariants.{NothingWaiting, NothingToPost, NoSuchPoint}
use Rattle.br_model.specs.declared.transcript.Line.TheVariants.{Soft, Held}
use Rattle.br_model.specs.Data.Maps.{has}
use Rattle.br_model.specs.Forward.Shares.{soft_out}
use Rattle.br_model.specs.Plane.World.{World, Waiting, Holding, Stepped, table_at, sent, refused, answered, reacts, after_lines}

-- The frame leaves by the table of this point, and then it is reacted to. A reaction that is refused leaves nothing of
-- itself, but the frame is sent.
abbrev pub posts : World → Waiting → ℕ → Stepped
posts w f point = after_lines
    (Soft f.id point ∷ sent f.id (soft_out w.setup.domains (table_at w point) f.port f.bytes f.head f.mark))
    (answered w w (reacts w (Sight f.port f.bytes f.head)))

-- The oldest frame is decided by what is published.
abbrev pub serves : World → List Waiting → Stepped
serves w [] = refused w NothingWaiting
serves w (f ∷ later) = posts (record w { waiting = later }) f w.published

-- The oldest frame is held. What is published now is its floor.
abbrev pub holds : World → List Waiting → Stepped
holds w [] = refused w NothingWaiting
holds w (f ∷ later) = (
  record w { waiting = later; held = w.held ++ record { waiting = f; floor = w.published } ∷ [] },
  Held f.id w.published ∷ [],
)

-- the held frame with this id
abbrev pub held_with : World → ℕ → Option Holding
held_with w id = find (λ h. h.waiting.id == id) w.held

abbrev pub lets_go : World → ℕ → World
lets_go w id = record w { held = filter (λ h. not (h.waiting.id == id)) w.held }

-- whether this count was published, at the floor or later
abbrev pub is_point : World → Holding → ℕ → Bool
is_point w h point = has nat_cmp w.counts point && nat_le h.floor point

-- a held frame is decided by its floor, or by the point that is named
abbrev pub posts_held : World → Holding → Option ℕ → Stepped
posts_held w h None = posts (lets_go w h.waiting.id) h.waiting h.floor
posts_held w h (Some point) =
    if is_point w h point then posts (lets_go w h.waiting.id) h.waiting point else refused w NoSuchPoint

abbrev pub posts_at : World → Option Holding → Option ℕ → Stepped
posts_at w None point = refused w NothingToPost
posts_at w (Some h) point = posts_held w h point
