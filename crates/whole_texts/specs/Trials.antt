-- What would become of a line, and a roster once more.
use Rattle.std.specs.Prelude.{◌≡◌, ℕ, ◌+◌, Bool, true, false, List, [], ◌∷◌, ◌++◌, string_bytes, take}
use Rattle.std.specs.declared.option.Option.{Option}
use Rattle.std.specs.declared.option.Option.TheVariants.{None, Some}
use Rattle.std.specs.declared.result.Result.{Result}
use Rattle.std.specs.declared.result.Result.TheVariants.{Ok, Err}
use Rattle.br_model.specs.declared.scenario.Item.{Item}
use Rattle.br_model.specs.declared.scenario.Item.TheVariants as items
use Rattle.br_model.specs.declared.scenario.LineWhy.{LineWhy}
use Rattle.br_model.specs.declared.scenario.LineWhy.TheVariants as why
use Rattle.br_model.specs.declared.scenario.Place.TheVariants.{Declarations}
use Rattle.br_model.specs.Program.Runs.{bad_alone}
use Rattle.br_model.specs.Text.Roster.{Roster}
use Rattle.br_model.specs.Text.Scenario.{Ending, Going, Ended, Bad, opened, reads}
use Rattle.scenario_reader.specs.declared.reader.Last.{Last}
use Rattle.scenario_reader.specs.declared.reader.Last.TheVariants as lasts
use Rattle.scenario_reader.specs.Reading.{ending_of}
use Rattle.whole_texts.specs.declared.replaying.Told.{Told}
use Rattle.whole_texts.specs.declared.session.Session.{Session}
use Rattle.whole_texts.specs.declared.session.SessionFault.{SessionFault}
use Rattle.whole_texts.specs.Sessions.{IsAt, IsWanted, RefusesLine}

-- how the scenario would end, if it would
abbrev pub ending_at : Option Last → Ending
ending_at None = Going
ending_at (Some last) = ending_of last

-- by no bad line
abbrev pub is_fine : Ending → Bool
is_fine Going = true
is_fine Ended = true
is_fine (Bad n why) = false

-- how the scenario would end with a line more behind these bytes
abbrev pub ending_with : List ℕ → List ℕ → Ending
ending_with bytes line = (reads (opened false) (bytes ++ (line ++ 10 ∷ []))).ending

-- The text is the last line of a scenario that ends so by a bad line, and nothing of another; this says which it is.
pub record TellsEnd (ending : Ending) (x : Told) : Type 0 where
  pub text : string_bytes x.text ≡ bad_alone ending
  pub well : x.well ≡ is_fine ending

-- A line is tried in a session, which wants it or refuses it.
abbrev pub Tries : Session → List ℕ → Result Told SessionFault → Type 0
Tries x line (Ok told) = IsWanted x line × ((bytes given : List ℕ) → IsAt bytes given x → TellsEnd (ending_with bytes line) told)
Tries x line (Err fault) = RefusesLine x line fault

-- among its declarations, with so many of its first ports
abbrev pub with_first : Roster → ℕ → Roster
with_first r i = record r { place = Declarations; ports = take i r.ports }

-- the end that a line says which gave this item
abbrev pub item_ends : Item → Option Last
item_ends items.Blank = None
item_ends (items.Scenario edition) = None
item_ends (items.Bridge mac) = None
item_ends (items.Declared port) = None
item_ends (items.Step step) = None
item_ends (items.Capture n) = None
item_ends items.End = Some lasts.Ended

-- by the line behind so many that is bad for this cause, which isn't want of memory
abbrev pub EndsFor : ℕ → LineWhy → Option Last → Type 0
EndsFor lines because end = (because ≡ why.NoMemory → ⊥) × (end ≡ Some (lasts.Bad (lines + 1) because))
