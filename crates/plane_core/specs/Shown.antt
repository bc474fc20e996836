-- What a copy of a held frame shows.
use Rattle.std.specs.Prelude.{ℕ, List, [], ◌∷◌}
use Rattle.std.specs.declared.option.Option.{Option}
use Rattle.std.specs.declared.option.Option.TheVariants.{None, Some}
use Rattle.br_model.specs.Plane.World.{Waiting, Holding}
use Rattle.hwdom_marks.specs.Marks.{domain_marked}
use Rattle.plane_core.specs.declared.held.Held.{Held}

pub record Shown : Type 0 where
  pub id : ℕ
  pub port : ℕ
  pub bytes : List ℕ
  pub mark : Option ℕ
  pub floor : ℕ

abbrev pub shown_by : Held → Shown
shown_by h = record { id = h.id; port = h.port; bytes = h.bytes; mark = domain_marked h.mark; floor = h.floor }

abbrev pub shown_of : Holding → Shown
shown_of x = record { id = x.waiting.id; port = x.waiting.port; bytes = x.waiting.bytes; mark = x.waiting.mark; floor = x.floor }

-- the oldest frame that waits, as it is held with this floor
abbrev pub opened : ℕ → List Waiting → Option Shown
opened floor [] = None
opened floor (f ∷ later) = Some (shown_of (record { waiting = f; floor = floor }))
