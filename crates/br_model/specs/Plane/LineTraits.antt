-- What is asked of lines beside their texts, a row a kind.
-- Source: this profile.
use Rattle.std.specs.Prelude.{ℕ, Bool, true, false, List, is_ok}
use Rattle.std.specs.Option.{option_map, option_map_or, option_zip}
use Rattle.std.specs.declared.option.Option.{Option}
use Rattle.std.specs.declared.option.Option.TheVariants.{None, Some}
use Rattle.std.specs.declared.result.Result.{Result}
use Rattle.std.specs.declared.result.Result.TheVariants.{Ok, Err}
use Rattle.br_model.specs.declared.steps.Refusal.{Refusal}
use Rattle.br_model.specs.declared.transcript.Line.{Line}
use Rattle.br_model.specs.declared.transcript.Line.TheVariants.{Chip, Unread, Soft, Held, Tx, Ctl, Overrun, Done, Refused, End}

pub record LineTraits : Type 0 where
  -- the id of the frame that it is of; a frame of the bridge itself has none
  pub frame : Option ℕ
  -- the port by which a frame leaves, and the frame
  pub leaves : Option (ℕ × List ℕ)
  -- The frame finds no room to wait.
  pub overrun : Bool
  -- the number of the step that it ends, and how many changes that accepts, or why it is refused
  pub answer : Option (ℕ × Result ℕ Refusal)

abbrev pub line_traits : Line → LineTraits
line_traits (Chip id changes applied class) = record { frame = Some id; leaves = None; overrun = false; answer = None }
line_traits (Unread id why) = record { frame = Some id; leaves = None; overrun = false; answer = None }
line_traits (Soft id point) = record { frame = Some id; leaves = None; overrun = false; answer = None }
line_traits (Held id floor) = record { frame = Some id; leaves = None; overrun = false; answer = None }
line_traits (Tx id port bytes) = record { frame = Some id; leaves = Some (port, bytes); overrun = false; answer = None }
line_traits (Ctl port bytes) = record { frame = None; leaves = Some (port, bytes); overrun = false; answer = None }
line_traits (Overrun id) = record { frame = Some id; leaves = None; overrun = true; answer = None }
line_traits (Done step changes) = record { frame = None; leaves = None; overrun = false; answer = Some (step, Ok changes) }
line_traits (Refused step why) = record { frame = None; leaves = None; overrun = false; answer = Some (step, Err why) }
line_traits (End steps changes pending waiting) = record { frame = None; leaves = None; overrun = false; answer = None }

-- the id of a frame, with the port by which it leaves and what leaves there
abbrev pub sends : Line → Option (ℕ × (ℕ × List ℕ))
sends l = let t = line_traits l in option_zip t.frame t.leaves

-- the id of a frame, with the port by which it leaves
abbrev pub leaving : Line → Option (ℕ × ℕ)
leaving l = let t = line_traits l in option_zip t.frame (option_map (λ x. x.0) t.leaves)

-- whether a step was done
abbrev pub is_done : Line → Bool
is_done l = option_map_or (λ a. is_ok a.1) (line_traits l).answer false
