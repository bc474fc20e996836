-- A frame that is posted by a decision that a seat gave.
use Rattle.std.specs.Prelude.{◌≡◌, ℕ, ◌+◌, ◌≤◌, true, List, [], ◌∷◌, ◌++◌, take}
use Rattle.std.specs.Ordering.{nat_cmp}
use Rattle.std.specs.declared.option.Option.{Option}
use Rattle.std.specs.declared.option.Option.TheVariants.{None, Some}
use Rattle.std.specs.declared.result.Result.TheVariants.{Ok}
use Rattle.br_model.specs.declared.frame.Head.{Head}
use Rattle.br_model.specs.declared.steps.Refusal.TheVariants.{NothingToPost}
use Rattle.br_model.specs.declared.transcript.Line.{Line}
use Rattle.br_model.specs.declared.transcript.Line.TheVariants.{Soft, Refused}
use Rattle.br_model.specs.Data.Maps.{has}
use Rattle.br_model.specs.Forward.Shares.{soft_out}
use Rattle.br_model.specs.Plane.World.{World, Holding, table_at, sent}
use Rattle.br_model.specs.Table.Domains.{Domains}
use Rattle.br_model.specs.Table.Table.{table}
use Rattle.br_model.specs.Wire.Frames.{frame}
use Rattle.br_model.specs.Wire.Messages.{message}
use Rattle.hwdom_marks.specs.Marks.{domain_marked}
use Rattle.plane_core.specs.declared.held.Held.{Held}
use Rattle.forward_rules.specs.Decided.{Decides}
use Rattle.table_publish.specs.Object.{Object}
use Rattle.table_publish.specs.declared.seat.Seen.{Seen}
pub use Rattle.plane_record.specs.Posts.{IsTheHeld}

-- The decision agrees with what a seat knows: its point is one of the counts there, not below the frame's floor, and it is that of
-- the first changes.
pub record IsSeen (domains : Domains) (known : Object) (h : Held) (seen : Seen) : Type 0 where
  pub point : has nat_cmp known.counts seen.point ≡ true
  pub floor : h.floor ≤ seen.point
  pub verdict : (head : Head) → frame h.bytes ≡ Ok head
      → Decides domains (table (take seen.point known.changes)) h.port head (message h.bytes head) seen.verdict

-- The frame is sent by the table of this point: the line that says so, one for each port that it leaves, and those of the reaction.
pub record IsSent (w : World) (h : Held) (point : ℕ) (lines : List Line) : Type 0 where
  pub head : Head
  pub is : frame h.bytes ≡ Ok head
  pub rest : List Line
  pub so : lines ≡ Soft h.id point ∷ (sent h.id (soft_out w.setup.domains (table_at w point) h.port h.bytes head (domain_marked h.mark)) ++ rest)

-- the lines of a post, by what is held under its id
abbrev pub Tells : World → Option Holding → Held → ℕ → List Line → Type 0
Tells w None h point lines = lines ≡ Refused (w.steps + 1) NothingToPost ∷ []
Tells w (Some x) h point lines = IsSent w h point lines
