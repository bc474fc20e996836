-- The world of a bridge with chips: its state, and how its steps end.
-- Source: this profile.
use Rattle.std.specs.Prelude.{ℕ, List, [], ◌∷◌, ◌++◌, map, length, take}
use Rattle.std.specs.declared.option.Option.{Option}
use Rattle.std.specs.declared.result.Result.{Result}
use Rattle.std.specs.declared.result.Result.TheVariants.{Ok, Err}
use Rattle.br_model.specs.declared.bpdu.BpduMsg.{BpduMsg}
use Rattle.br_model.specs.declared.change.Change.{Change}
use Rattle.br_model.specs.declared.frame.Head.{Head}
use Rattle.br_model.specs.declared.steps.Event.{Event}
use Rattle.br_model.specs.declared.steps.Refusal.{Refusal}
use Rattle.br_model.specs.declared.transcript.Line.{Line}
use Rattle.br_model.specs.declared.transcript.Line.TheVariants.{Tx, Ctl, Done, Refused}
use Rattle.br_model.specs.Wire.Bpdus.{written}
use Rattle.br_model.specs.Plane.Chip.{Chip, first_chips, chip_in, put_chip, chip_table}
use Rattle.br_model.specs.Control.Control.{Control, first_control}
use Rattle.br_model.specs.Control.Reaction.{Reaction, react}
use Rattle.br_model.specs.Table.Cut.{deferred_at}
use Rattle.br_model.specs.Table.Setup.{Setup}
use Rattle.br_model.specs.Table.Table.{Table, table}

-- a frame that waits for software
pub record Waiting : Type 0 where
  pub id : ℕ
  -- the port by which it entered
  pub port : ℕ
  pub bytes : List ℕ
  pub head : Head
  -- the domain in which a chip has sent it already
  pub mark : Option ℕ

-- a frame that software holds, and the count that was published when it took it: the frame is decided by no earlier one
pub record Holding : Type 0 where
  pub waiting : Waiting
  pub floor : ℕ

pub record World : Type 0 where
  pub setup : Setup
  -- the accepted changes, and what the bridge keeps beside their table
  pub history : List Change
  pub control : Control
  -- a chip for each domain that exists, ascending
  pub chips : List Chip
  -- how many changes were published last, and each count that ever was, ascending
  pub published : ℕ
  pub counts : List ℕ
  -- the oldest first
  pub waiting : List Waiting
  pub held : List Holding
  -- the id of the next frame, and how many steps there were
  pub next : ℕ
  pub steps : ℕ

abbrev pub first_world : Setup → World
first_world setup = record {
  setup = setup;
  history = [];
  control = first_control setup.own;
  chips = first_chips setup.domains;
  published = 0;
  counts = 0 ∷ [];
  waiting = [];
  held = [];
  next = 1;
  steps = 0;
}

-- a world, and the lines that were written on the way to it
abbrev pub Stepped : Type 0
Stepped = World × List Line

-- the table by which software decides at this point: that of the first changes
abbrev pub table_at : World → ℕ → Table
table_at w point = table (take point w.history)

-- the chip of this domain
abbrev pub chip_at : World → ℕ → Option Chip
chip_at w dom = chip_in w.chips dom

-- with this one in the place of that of its domain
abbrev pub with_chip : World → Chip → World
with_chip w c = record w { chips = put_chip w.chips c }

-- the table by which a chip decides
abbrev pub table_of_chip : World → Chip → Table
table_of_chip w c = chip_table w.setup.domains.edition w.history c

-- the deferred change that a chip applies next
abbrev pub next_of : World → Chip → Option Change
next_of w c = deferred_at w.setup.domains.edition w.history c.count

-- the lines of a frame that is sent
abbrev pub sent : ℕ → List (ℕ × List ℕ) → List Line
sent id out = map (λ x. Tx id x.0 x.1) out

-- How steps end. The step is counted already.

-- A refused step changes nothing but the number of steps; of a post only the reaction is refused.
abbrev pub refused : World → Refusal → Stepped
refused w why = (w, Refused w.steps why ∷ [])

abbrev pub done : World → Stepped
done w = (w, Done w.steps 0 ∷ [])

abbrev pub accepts : World → Reaction → World
accepts w r = record w { history = w.history ++ r.changes; control = r.control }

-- the line of the frame that carries a message of the spanning tree by a port, from the bridge of this address
abbrev pub control_line : ℕ → ℕ × BpduMsg → Line
control_line own x = Ctl x.0 (written own x.1)

abbrev pub control_lines : ℕ → List (ℕ × BpduMsg) → List Line
control_lines own messages = map (control_line own) messages

-- An event is refused in one world, or its changes are accepted in another.
abbrev pub answered : World → World → Result Reaction Refusal → Stepped
answered before after (Err why) = refused before why
answered before after (Ok r) = (accepts after r, control_lines after.setup.own r.messages ++ Done after.steps (length r.changes) ∷ [])

-- how the bridge reacts in this world
abbrev pub reacts : World → Event → Result Reaction Refusal
reacts w event = react w.setup w.history w.control event

-- lines before those of a step's end
abbrev pub after_lines : List Line → Stepped → Stepped
after_lines before x = (x.0, before ++ x.1)
