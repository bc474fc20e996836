-- What is so of a step whether or not a frame finds room to wait, or is sent.
use Rattle.std.proofs.Common.{ℕ, ◌+◌, true, false, cond, [], ◌∷◌, ◌++◌, length, Option, None, Some}
use Rattle.std.specs.Prelude.{nat_lt}
use Rattle.br_model.specs.declared.frame.Class.{Class}
use Rattle.br_model.specs.declared.frame.Class.TheVariants.{Drop, Trap, Copy, Forward}
use Rattle.br_model.specs.declared.steps.Refusal.{Refusal}
use Rattle.br_model.specs.declared.steps.Refusal.TheVariants.{NothingToPost, NoSuchPoint}
use Rattle.br_model.specs.declared.transcript.Line.TheVariants.{Overrun}
use Rattle.br_model.specs.Plane.Entering.{waits, goes_on}
use Rattle.br_model.specs.Plane.Serving.{is_point, lets_go, posts, posts_at, posts_held}
use Rattle.br_model.specs.Plane.World.{World, Waiting, Holding, Stepped, refused}
use Rattle.br_model.specs.Table.Limits.{most_waiting}

pub waits-either : (P : Stepped → Type 0) (w : World) (f : Waiting) → P (record w { waiting = w.waiting ++ f ∷ [] }, []) → P (w, Overrun f.id ∷ []) → P (waits w f)
waits-either P w f room full =
    elim (nat_lt (length w.waiting + length w.held) most_waiting) as (λ b. P (cond {A = Stepped} b (record w { waiting = w.waiting ++ f ∷ [] }, []) (w, Overrun f.id ∷ []))) [
      | true ↦ room
      | false ↦ full
    ]

pub goes_on-either : (P : Stepped → Type 0) (c : Class) (w : World) (f : Waiting) → P (w, []) → P (waits w f) → P (goes_on c w f)
goes_on-either P Drop w f ends waits = ends
goes_on-either P Trap w f ends waits = waits
goes_on-either P Copy w f ends waits = waits
goes_on-either P Forward w f ends waits = ends

module _ (P : Stepped → Type 0) (w : World) (refuses : (why : Refusal) → P (refused w why)) (sends : (h : Holding) (point : ℕ) → P (posts (lets_go w h.waiting.id) h.waiting point)) where
  posts_held-either : (h : Holding) (point : Option ℕ) → P (posts_held w h point)
  posts_held-either h None = sends h h.floor
  posts_held-either h (Some point) =
      elim (is_point w h point) as (λ b. P (cond {A = Stepped} b (posts (lets_go w h.waiting.id) h.waiting point) (refused w NoSuchPoint))) [
        | true ↦ sends h point
        | false ↦ refuses NoSuchPoint
      ]

  pub posts_at-either : (o : Option Holding) (point : Option ℕ) → P (posts_at w o point)
  posts_at-either None point = refuses NothingToPost
  posts_at-either (Some h) point = posts_held-either h point
