-- A bridge with the copies of its table that follow it: one of each chip, and the published one.
use Rattle.std.specs.Prelude.{◌≡◌, ℕ, List, [], ◌++◌, length}
use Rattle.std.proofs.Common.{refl}
use Rattle.br_model.specs.declared.change.Change.{Change}
use Rattle.br_model.specs.Plane.Chip.{Chip, first_chips}
use Rattle.br_model.specs.Control.Control.{Control, first_control}
use Rattle.br_model.specs.Plane.World.{World}
use Rattle.br_model.specs.Table.Setup.{Setup}
use Rattle.bridge_core.specs.Kept.{Controlled}
use Rattle.table_publish.specs.Board.{Shelf, all_of}
use Rattle.table_publish.specs.Object.{Object, Whose, first_object}
use Rattle.hwdom_chips.specs.Chips.{ChipState, AreChips, chips_of}
use Rattle.plane_reactions.specs.Reacted.{Seen}
use Rattle.plane_parts.specs.Places.{places}
use Rattle.plane_parts.specs.Queued.{Queued}

pub record SidesState : Type 0 where
  pub setup : Setup
  pub history : List Change
  pub control : Control
  -- a chip for each domain that has one, ascending
  pub chips : List Chip
  -- what is published, and over which board
  pub published : Object
  pub board : Whose

abbrev pub first_sides : Setup → Whose → SidesState
first_sides setup board = record {
  setup = setup;
  history = [];
  control = first_control setup.own;
  chips = first_chips setup.domains;
  published = first_object;
  board = board;
}

-- a bridge in which nothing has happened, its chips, and no deferred changes
pub record HasBegun (setup : Setup) (bridge : Controlled) (chips : List ChipState) (noted : List ℕ) : Type 0 where
  pub bridge_is : bridge ≡ record { setup = setup; history = []; control = first_control setup.own }
  pub follows : AreChips setup.domains [] chips
  pub chips_are : chips_of chips ≡ first_chips setup.domains
  pub places_are : noted ≡ []

-- The chips follow the bridge's history, the places are those of its deferred changes, and the board has it, published or not.
pub record AreSides (bridge : Controlled) (chips : List ChipState) (noted : List ℕ) (board : Shelf) : Type 0 where
  pub follows : AreChips bridge.setup.domains bridge.history chips
  pub places : noted ≡ places bridge.setup.domains.edition bridge.history
  pub whole : all_of board ≡ bridge.history
  pub domains : board.board.domains ≡ bridge.setup.domains

-- the world with these frames and so many steps
abbrev pub world_of : SidesState → Queued → ℕ → World
world_of s q steps = record {
  setup = s.setup;
  history = s.history;
  control = s.control;
  chips = s.chips;
  published = length s.published.changes;
  counts = s.published.counts;
  waiting = q.waiting;
  held = q.held;
  next = q.next;
  steps = steps;
}

-- how they are the sides of a bridge
abbrev pub of_sides : Seen SidesState
of_sides = record {
  setup = λ s. s.setup;
  made = λ s r kept. record s { history = s.history ++ r.changes; control = r.control; chips = kept };
  world = world_of;
  setup_is = λ s q step. refl;
  steps_are = λ s q step. refl;
  made_is = λ s r kept q step. refl;
}
