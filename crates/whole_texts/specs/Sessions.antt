-- The lines of a scenario and their sections, taken one after another, and what is told of them.
use Rattle.std.specs.Prelude.{◌≡◌, ℕ, ◌+◌, ◌<◌, ◌≤◌, ◌⊎◌, Bool, true, false, List, [], ◌∷◌, ◌++◌, length, string_bytes}
use Rattle.std.specs.declared.option.Option.{Option}
use Rattle.std.specs.declared.option.Option.TheVariants.{None, Some}
use Rattle.std.specs.declared.result.Result.{Result}
use Rattle.std.specs.declared.result.Result.TheVariants.{Ok, Err}
use Rattle.br_model.specs.Plane.World.{World}
use Rattle.br_model.specs.Program.Runs.{body, run_of, told}
use Rattle.br_model.specs.Table.Limits.{most_bytes}
use Rattle.br_model.specs.Text.Operands.{longest_section}
use Rattle.br_model.specs.Text.Roster.{Roster}
use Rattle.br_model.specs.Text.Scenario.{Scenario, Ending, Going, Ended, Bad, opened, read, reads}
use Rattle.br_model.specs.Theorems.WholeLines.{is_line}
use Rattle.scenario_reader.specs.declared.reader.Last.{Last}
use Rattle.scenario_reader.specs.Reading.{IsBehindDeclarations, ReaderState, ending_of}
use Rattle.whole_texts.specs.declared.session.Awaits.{Awaits}
use Rattle.whole_texts.specs.declared.session.Awaits.TheVariants.{Line, Section, Nothing}
use Rattle.whole_texts.specs.declared.session.Session.{Session}
use Rattle.whole_texts.specs.declared.session.SessionFault.{SessionFault}
use Rattle.whole_texts.specs.declared.session.SessionFault.TheVariants as faults
use Rattle.scenario_play.specs.Playing.{AtSection, IsSteady, Played, ReadsOn, last_line, played, world_of}
use Rattle.scenario_play.specs.Stages.{Standing}
use Rattle.whole_texts.specs.Stages.{lone}
use Rattle.whole_texts.specs.Texts.{ends_well}

-- what is told

-- whether a scenario has ended, and by its line `end`
abbrev pub ended_of : Ending → Option Bool
ended_of Going = None
ended_of Ended = Some true
ended_of (Bad n why) = Some false

abbrev pub told_at : Ending → List ℕ → List ℕ
told_at Going bytes = body bytes
told_at Ended bytes = told bytes
told_at (Bad n why) bytes = told bytes

-- What is told of bytes behind which more may come: the last line isn't told before the scenario has ended.
abbrev pub told_so_far : List ℕ → List ℕ
told_so_far bytes = told_at (reads (opened false) bytes).ending bytes

-- what a session waits for

-- so many bytes of a section
abbrev pub section_of : Awaits → Option ℕ
section_of Line = None
section_of (Section n) = Some n
section_of (Nothing well) = None

-- nothing, after an end by the line `end` or by a bad line
abbrev pub end_of : Awaits → Option Bool
end_of Line = None
end_of (Section n) = None
end_of (Nothing well) = Some well

-- The last one of these lines is `capture` with so many bytes, which are next.
pub record InSection (bytes given : List ℕ) (n : ℕ) (x : Played) : Type 0 where
  pub scenario : Scenario
  pub before : List ℕ
  pub line : List ℕ
  pub joined : bytes ≡ before ++ (line ++ 10 ∷ [])
  pub reads_so : (more : List ℕ) → read 0 (opened false) (before ++ more) ≡ read 0 scenario more
  pub at : AtSection given scenario line n x

-- The declared ports and the world are those of the scenario.
pub record Agrees (s : Scenario) (roster : Roster) (x : Standing) : Type 0 where
  pub ports : roster.ports ≡ s.roster.ports
  pub world : world_of s.roster x.world ≡ (run_of s).0

-- The scenario has ended with these bytes.
pub record IsOut (bytes given : List ℕ) (well : Bool) (x : Played) : Type 0 where
  pub ends : ended_of (reads (opened false) bytes).ending ≡ Some well
  pub body : given ++ x.text ≡ told bytes
  pub agrees : Agrees (reads (opened false) bytes) x.reader.roster x.stage

abbrev pub SoAt : Awaits → List ℕ → List ℕ → Played → Type 0
SoAt Line bytes given x = ReadsOn given (opened false) (λ more. bytes ++ more) x
SoAt (Section n) bytes given x = (0 < n) × InSection bytes given n x
SoAt (Nothing well) bytes given x = IsOut bytes given well x

abbrev pub state : Session → Played
state x = played x.play (lone x.stage.world) (string_bytes x.text)

-- The session has taken these bytes, and of what is told of them it has let go what was given.
pub record IsAt (bytes given : List ℕ) (x : Session) : Type 0 where
  pub taken : x.taken ≡ length bytes
  pub so : SoAt x.awaits bytes given (state x)

-- what holds of each session

abbrev pub IsAwaiting : Awaits → ℕ → ReaderState → Option World → Type 0
IsAwaiting Line taken r w = IsSteady r.roster w × (r.lines ≤ taken)
IsAwaiting (Section n) taken r w = IsSteady r.roster w × (r.lines ≤ taken) × (n ≤ longest_section) × IsBehindDeclarations r.roster
IsAwaiting (Nothing well) taken r w = Unit {0}

pub record IsSound (x : Session) : Type 0 where
  pub most : x.taken ≤ most_bytes
  pub awaiting : IsAwaiting x.awaits x.taken x.play.reader x.stage.world

-- what a call has done

-- these bytes more were taken
pub record Takes (old : Session) (more : List ℕ) (new : Session) : Type 0 where
  pub sound : IsSound new
  pub at : (bytes given : List ℕ) → IsAt bytes given old → IsAt (bytes ++ more) given new

-- so many bytes more would be too many
abbrev pub IsFull : Session → ℕ → Type 0
IsFull x n = most_bytes < x.taken + n

-- Behind the end the answer is that it has ended, and no other.

abbrev pub RefusesLine : Session → List ℕ → SessionFault → Type 0
RefusesLine x line faults.Ended = (well : Bool) × (end_of x.awaits ≡ Some well)
RefusesLine x line faults.Misplaced = (end_of x.awaits ≡ None) × (((n : ℕ) × (section_of x.awaits ≡ Some n)) ⊎ (is_line line ≡ false))
RefusesLine x line faults.TooLong = (end_of x.awaits ≡ None) × IsFull x (length line + 1)
RefusesLine x line faults.NoMemory = end_of x.awaits ≡ None

abbrev pub RefusesSection : Session → List ℕ → SessionFault → Type 0
RefusesSection x section faults.Ended = (well : Bool) × (end_of x.awaits ≡ Some well)
RefusesSection x section faults.Misplaced = (end_of x.awaits ≡ None) × (section_of x.awaits ≡ Some (length section) → ⊥)
RefusesSection x section faults.TooLong = (end_of x.awaits ≡ None) × IsFull x (length section)
RefusesSection x section faults.NoMemory = end_of x.awaits ≡ None

-- but for want of memory the session is as before
abbrev pub IsKept : Session → Session → SessionFault → Type 0
IsKept old new faults.Ended = new ≡ old
IsKept old new faults.Misplaced = new ≡ old
IsKept old new faults.TooLong = new ≡ old
IsKept old new faults.NoMemory = Unit {0}

-- a line is wanted
pub record IsWanted (x : Session) (line : List ℕ) : Type 0 where
  pub awaits : x.awaits ≡ Line
  pub feedless : is_line line ≡ true
  pub room : x.taken + (length line + 1) ≤ most_bytes

-- a section of this length is
pub record IsSectionWanted (x : Session) (section : List ℕ) : Type 0 where
  pub awaits : x.awaits ≡ Section (length section)
  pub room : x.taken + length section ≤ most_bytes

-- so many bytes more were taken, since they were wanted, or refused
abbrev pub Goes : Session → List ℕ → Type 0 → (SessionFault → Type 0) → Session → Result (Unit {0}) SessionFault → Type 0
Goes old more wanted refuses new (Ok done) = wanted × Takes old more new
Goes old more wanted refuses new (Err fault) = IsKept old new fault × refuses fault

abbrev pub Admits : Type 0 → (SessionFault → Type 0) → Result (Unit {0}) SessionFault → Type 0
Admits wanted refuses (Ok done) = wanted
Admits wanted refuses (Err fault) = refuses fault

-- the last line is told
pub record HasFinished (old : Session) (last : Last) (new : Session) : Type 0 where
  pub taken : new.taken ≡ old.taken
  pub awaits : new.awaits ≡ Nothing (ends_well (ending_of last))
  pub reader : new.play.reader ≡ old.play.reader
  pub stage : new.stage ≡ old.stage
  pub text : string_bytes new.text ≡ string_bytes old.text ++ last_line last old.stage.world

-- the section of the line before was taken, but isn't counted
pub record EndsSection (old : Session) (section : List ℕ) (new : Session) : Type 0 where
  pub taken : new.taken ≡ old.taken
  pub awaiting : IsAwaiting new.awaits new.taken new.play.reader new.stage.world
  pub so : (bytes given : List ℕ) → InSection bytes given (length section) (state old) → SoAt new.awaits (bytes ++ section) given (state new)
