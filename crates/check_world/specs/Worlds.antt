-- Steps of the world, as the checker does them.
use Rattle.std.specs.Prelude.{◌≡◌, ℕ, ◌==◌, true, if◌then◌else◌, List}
use Rattle.std.specs.List.{find}
use Rattle.std.specs.Option.{is_some}
use Rattle.std.specs.declared.option.Option.{Option}
use Rattle.std.specs.declared.option.Option.TheVariants.{None, Some}
use Rattle.std.specs.declared.result.Result.{Result}
use Rattle.std.specs.declared.result.Result.TheVariants.{Ok, Err}
use Rattle.br_model.specs.declared.frame.Class.{Class}
use Rattle.br_model.specs.declared.frame.Class.TheVariants.{Drop, Trap, Copy, Forward}
use Rattle.br_model.specs.declared.frame.Head.{Head}
use Rattle.br_model.specs.declared.steps.Refusal.{Refusal}
use Rattle.br_model.specs.declared.steps.Refusal.TheVariants.{NothingToPost, NoSuchPoint}
use Rattle.br_model.specs.declared.steps.Step.{Step}
use Rattle.br_model.specs.declared.transcript.Line.{Line}
use Rattle.br_model.specs.Plane.Entering.{chip_of}
use Rattle.br_model.specs.Plane.Serving.{is_point, lets_go, posts}
use Rattle.br_model.specs.Plane.Steps.{world_step}
use Rattle.br_model.specs.Plane.World.{World, Holding, chip_at}
use Rattle.br_model.specs.Table.Domains.{Domains, domain_of}
use Rattle.plane_parts.specs.declared.frames.Arrival.{Arrival}
use Rattle.plane_parts.specs.declared.frames.Arrival.TheVariants.{PassesBy}
use Rattle.plane_parts.specs.Arrivals.{arrival}
use Rattle.plane_parts.specs.Queued.{Queued}
use Rattle.check_world.specs.Sides.{SidesState, world_of}

-- a step of the world has these lines
abbrev pub Tells : World → Step → World → List Line → Type 0
Tells old step new lines = world_step old step ≡ (new, lines)

-- whether this is the domain of the port, and has a chip; none where the port's domain has no chip, or it has no domain
abbrev pub IsOnChip : World → ℕ → Option ℕ → Type 0
IsOnChip w port None = chip_of w (domain_of w.setup.domains port) ≡ None
IsOnChip w port (Some dom) = (domain_of w.setup.domains port ≡ Some dom) × (is_some (chip_at w dom) ≡ true)

-- what becomes of a frame at the port that the port's chip has put into this class
abbrev pub arrival_by : Class → Domains → Queued → ℕ → List ℕ → Head → Arrival
arrival_by Drop domains q port bytes head = PassesBy
arrival_by Trap domains q port bytes head = arrival q (record { id = q.next; port = port; bytes = bytes; head = head; mark = None })
arrival_by Copy domains q port bytes head = arrival q (record { id = q.next; port = port; bytes = bytes; head = head; mark = domain_of domains port })
arrival_by Forward domains q port bytes head = PassesBy

-- The point by which a held frame is posted: its floor, or the one that is named; or why it isn't.
abbrev pub point_of : World → Option Holding → Option ℕ → Result ℕ Refusal
point_of w None named = Err NothingToPost
point_of w (Some h) None = Ok h.floor
point_of w (Some h) (Some point) = if is_point w h point then Ok point else Err NoSuchPoint

-- The held frame with this id is sent by the table of the point, and these are the lines.
abbrev pub PostsHeld : SidesState → Queued → ℕ → ℕ → ℕ → SidesState → Queued → List Line → Type 0
PostsHeld s q step id point t r lines =
    (h : Holding) → find (λ h. h.waiting.id == id) q.held ≡ Some h → posts (lets_go (world_of s q step) id) h.waiting point ≡ (world_of t r step, lines)
