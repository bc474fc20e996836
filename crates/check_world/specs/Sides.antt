-- A bridge with the tables that follow it: one of each chip's cut, and one of a published point.
use Rattle.std.specs.Prelude.{◌≡◌, ℕ, List, [], ◌∷◌, ◌++◌}
use Rattle.std.proofs.Common.{refl}
use Rattle.br_model.specs.declared.change.Change.{Change}
use Rattle.br_model.specs.Plane.Chip.{Chip, chip_table, first_chips}
use Rattle.br_model.specs.Control.Control.{Control, first_control}
use Rattle.br_model.specs.Plane.World.{World}
use Rattle.br_model.specs.Table.Setup.{Setup}
use Rattle.br_model.specs.Table.Table.{Table}
use Rattle.bridge_core.specs.Kept.{Controlled}
use Rattle.plane_reactions.specs.Reacted.{Seen}
use Rattle.plane_parts.specs.Places.{places}
use Rattle.plane_parts.specs.Queued.{Queued}
use Rattle.check_world.specs.Cuts.{AreCuts, CutState}
use Rattle.check_world.specs.Points.{IsPoint, PointState}

pub record SidesState : Type 0 where
  pub setup : Setup
  pub history : List Change
  pub control : Control
  -- a chip for each domain that has one, ascending
  pub chips : List Chip
  -- how many changes were published last, and each count that ever was, ascending
  pub published : ℕ
  pub counts : List ℕ

abbrev pub first_sides : Setup → SidesState
first_sides setup = record {
  setup = setup;
  history = [];
  control = first_control setup.own;
  chips = first_chips setup.domains;
  published = 0;
  counts = 0 ∷ [];
}

-- The cuts follow the bridge's history, the places are those of its deferred changes, and the point's table is of its first ones.
pub record AreSides (bridge : Controlled) (cuts : List CutState) (noted : List ℕ) (point : PointState) : Type 0 where
  pub follows : AreCuts bridge.setup.domains bridge.history cuts
  pub places : noted ≡ places bridge.setup.domains.edition bridge.history
  pub stands : IsPoint bridge.history point

-- the world with these frames and so many steps
abbrev pub world_of : SidesState → Queued → ℕ → World
world_of s q steps = record {
  setup = s.setup;
  history = s.history;
  control = s.control;
  chips = s.chips;
  published = s.published;
  counts = s.counts;
  waiting = q.waiting;
  held = q.held;
  next = q.next;
  steps = steps;
}

-- how they are the sides of a bridge
abbrev pub of_sides : Seen SidesState
of_sides = record {
  setup = λ s. s.setup;
  made = λ s r kept. record s { history = s.history ++ r.changes; control = r.control; chips = kept };
  world = world_of;
  setup_is = λ s q step. refl;
  steps_are = λ s q step. refl;
  made_is = λ s r kept q step. refl;
}

-- the table by which the chip decides
abbrev pub table_of : SidesState → Chip → Table
table_of s c = chip_table s.setup.domains.edition s.history c
