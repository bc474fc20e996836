-- What the lines of a run say of frames that wait or are held, and of those that are sent.
-- Source: the kernel's nbp_switchdev_allowed_egress (software doesn't send to the domain in which a chip has sent the frame).
use Rattle.std.specs.Prelude.{◌≡◌, ℕ, ◌≤◌, false, List, []}
use Rattle.std.specs.List.{All}
use Rattle.br_model.specs.declared.transcript.Line.{Line}
use Rattle.br_model.specs.Table.DomainPorts.{is_marked}
use Rattle.br_model.specs.Theorems.Invariants.{frames_of}
use Rattle.br_model.specs.Plane.Sending.{times, sent_of}
use Rattle.br_model.specs.Plane.World.{World}

-- No frame leaves a port twice. One that waits or is held has left ports of the domain of its mark alone, and none where it has
-- no mark. One that didn't enter yet has left none.
pub record LinesStand (w : World) (lines : List Line) : Type 0 where
  pub once : (id port : ℕ) → times port (sent_of id lines) ≤ 1
  pub marked : All (λ f. (port : ℕ) → is_marked w.setup.domains f.mark port ≡ false → times port (sent_of f.id lines) ≡ 0) (frames_of w.held w.waiting)
  pub fresh : (id : ℕ) → w.next ≤ id → sent_of id lines ≡ []
