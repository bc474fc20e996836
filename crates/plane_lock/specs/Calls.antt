-- What a call can answer that takes the plane's lock itself. Its caller doesn't know which past the lock kept then: it is some past of
-- the same board, domains and address.
use Rattle.std.specs.Prelude.{◌≡◌, ℕ, List, OnOk}
use Rattle.std.specs.Option.{option_map}
use Rattle.std.specs.declared.option.Option.{Option}
use Rattle.std.specs.declared.result.Result.{Result}
use Rattle.br_model.specs.declared.steps.Step.{Step}
use Rattle.br_model.specs.declared.steps.Step.TheVariants.{Rx}
use Rattle.br_model.specs.declared.transcript.Line.{Line}
use Rattle.br_model.specs.Wire.Frames.{frame}
use Rattle.plane_core.specs.Planes.{IsDecidedBy, published_in}
use Rattle.plane_core.specs.Shown.{opened, shown_by}
use Rattle.plane_core.specs.declared.faults.PostFault.{PostFault}
use Rattle.plane_core.specs.declared.held.Held.{Held}
use Rattle.plane_core.specs.declared.plane.Entered.{Entered}
use Rattle.plane_record.specs.Pasts.{Past, said_by, world_of}
use Rattle.table_publish.specs.Object.{Begins, Object, Whose}
use Rattle.table_publish.specs.declared.seat.Seen.{Seen}
use Rattle.transcript_lines.specs.Rows.{Listed}
use Rattle.plane_lock.specs.Acts.{Acted, PostActed}
use Rattle.plane_lock.specs.declared.locked.ActFault.{ActFault}

-- a past over this board, of the board's domains and this address
abbrev pub IsOf : Whose → ℕ → Past → Type 0
IsOf name own p = (p.board ≡ name) × (p.setup ≡ record { domains = name.domains; own = own })

-- the lines of the step, taken behind some past
pub record SaidBySome (name : Whose) (own : ℕ) (step : Step) (lines : List Line) : Type 0 where
  pub past : Past
  pub is_of : IsOf name own past
  pub said : lines ≡ said_by past step

-- a frame of these bytes entered at the port behind some past: the lines of that step, and the decision of that world
pub record EntersSome (name : Whose) (own port : ℕ) (bytes : List ℕ) (entered : Entered) : Type 0 where
  pub past : Past
  pub is_of : IsOf name own past
  pub said : entered.lines.lines ≡ said_by past (Rx port bytes)
  pub pass : IsDecidedBy (world_of past) port bytes (frame bytes) entered.pass

-- the step was taken behind some past, or came to nothing there
pub record ActsOnSome (name : Whose) (own : ℕ) (step : Step) (result : Result Listed ActFault) : Type 0 where
  pub past : Past
  pub is_of : IsOf name own past
  pub next : Past
  pub acted : Acted past next step result

-- the oldest frame that waited behind some past is held, if one did, and all that was published there is known
pub record OpensSome (name : Whose) (own : ℕ) (known : Object) (held : Option Held) : Type 0 where
  pub past : Past
  pub is_of : IsOf name own past
  pub oldest : option_map shown_by held ≡ opened (world_of past).published (world_of past).waiting
  pub told : Begins known (published_in (world_of past))

-- the frame was posted behind some past, and all that is published then is known; or it came to nothing there
pub record PostsOnSome (name : Whose) (own : ℕ) (h : Held) (n : Seen) (known : Object) (result : Result Listed PostFault) : Type 0 where
  pub past : Past
  pub is_of : IsOf name own past
  pub next : Past
  pub posted : PostActed past next h n result
  pub told : OnOk result (Begins known (published_in (world_of next)))
