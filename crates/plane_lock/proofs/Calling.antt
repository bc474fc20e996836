-- What a call finds when it takes the lock is some past of this board.
use Rattle.std.proofs.Common.{◌≡◌, ℕ, List, sym, subst}
use Rattle.std.specs.Option.{option_map}
use Rattle.std.specs.Prelude.{IfOk, IfErr, OnOk}
use Rattle.std.specs.declared.option.Option.{Option}
use Rattle.std.specs.declared.result.Result.{Result}
use Rattle.std.specs.declared.result.Result.TheVariants.{Ok, Err}
use Rattle.br_model.specs.declared.steps.Step.{Step}
use Rattle.br_model.specs.declared.steps.Step.TheVariants.{Rx}
use Rattle.br_model.specs.Plane.Serving.{held_with}
use Rattle.br_model.specs.Wire.Frames.{frame}
use Rattle.plane_core.specs.Planes.{IsDecidedBy, published_in}
use Rattle.plane_core.specs.Shown.{opened, shown_by}
use Rattle.plane_core.specs.declared.faults.PostFault.{PostFault}
use Rattle.plane_core.specs.declared.held.Held.{Held}
use Rattle.plane_core.specs.declared.plane.Entered.{Entered}
use Rattle.plane_record.specs.Pasts.{Past, acted, post_step, said_by, world_of}
use Rattle.table_publish.specs.Object.{Begins, Object, Whose}
use Rattle.table_publish.specs.declared.seat.Seen.{Seen}
use Rattle.transcript_lines.specs.Rows.{Listed}
use Rattle.plane_lock.specs.Acts.{Acted, PostActed, PostFails}
use Rattle.plane_lock.specs.Calls.{ActsOnSome, EntersSome, IsOf, OpensSome, PostsOnSome, SaidBySome}
use Rattle.plane_lock.specs.Posts.{IsTheHeld, Tells}
use Rattle.plane_lock.specs.declared.locked.ActFault.{ActFault}

-- what a post under the lock comes to, clause by clause
pub post-acted : (result : Result Listed PostFault) (old new : Past) (h : Held) (n : Seen) → OnOk result (new ≡ acted old (post_step (held_with (world_of old) h.id) h.id n.point))
    → IfOk result (λ l. l.lines ≡ said_by old (post_step (held_with (world_of old) h.id) h.id n.point)) → IfOk result (λ l. Tells (world_of old) (held_with (world_of old) h.id) h n.point l.lines)
    → OnOk result (IsTheHeld (world_of old) h n.point) → IfErr result (PostFails old new (post_step (held_with (world_of old) h.id) h.id n.point) h n) → PostActed old new h n result
post-acted (Ok l) old new h n ok said lines held err = (ok, said, lines, held)
post-acted (Err why) old new h n ok said lines held err = err

-- `kept` is what the guard has, and `now` what the call under the lock finds.
module _ (name : Whose) (own : ℕ) (kept now : Past) (is : IsOf name own kept) (same : now ≡ kept) where
  found : IsOf name own now
  found = subst (λ (p : Past). IsOf name own p) (sym same) is

  pub acts-on-some : (next : Past) (step : Step) (result : Result Listed ActFault) → Acted now next step result → ActsOnSome name own step result
  acts-on-some next step result acted = record { past = now; is_of = found; next = next; acted = acted }

  pub said-by-some : {E : Type 0} (step : Step) (result : Result Listed E) → IfOk result (λ l. l.lines ≡ said_by now step) → IfOk result (λ l. SaidBySome name own step l.lines)
  said-by-some step (Ok l) said = record { past = now; is_of = found; said = said }
  said-by-some step (Err e) said = tt

  pub enters-some : {E : Type 0} (port : ℕ) (bytes : List ℕ) (result : Result Entered E) → IfOk result (λ e. e.lines.lines ≡ said_by now (Rx port bytes))
      → IfOk result (λ e. IsDecidedBy (world_of now) port bytes (frame bytes) e.pass) → IfOk result (EntersSome name own port bytes)
  enters-some port bytes (Ok e) said pass = record { past = now; is_of = found; said = said; pass = pass }
  enters-some port bytes (Err e) said pass = tt

  pub opens-some : {E : Type 0} (known : Object) (result : Result (Option Held) E) → IfOk result (λ held. option_map shown_by held ≡ opened (world_of now).published (world_of now).waiting)
      → Begins known (published_in (world_of now)) → IfOk result (OpensSome name own known)
  opens-some known (Ok held) oldest told = record { past = now; is_of = found; oldest = oldest; told = told }
  opens-some known (Err e) oldest told = tt

  pub posts-on-some : (next : Past) (h : Held) (n : Seen) (known : Object) (result : Result Listed PostFault) → PostActed now next h n result
      → OnOk result (Begins known (published_in (world_of next)))
      → PostsOnSome name own h n known result
  posts-on-some next h n known result posted told = record { past = now; is_of = found; next = next; posted = posted; told = told }
