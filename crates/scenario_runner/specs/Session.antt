-- A session has read the lines of a scenario up to here.
use Rattle.std.specs.Prelude.{◌≡◌, ℕ, ◌≤◌, List, [], ◌∷◌, ◌++◌, true, false}
use Rattle.std.specs.List.{list_all}
use Rattle.std.specs.declared.option.Option.{Option}
use Rattle.std.specs.declared.option.Option.TheVariants.{None, Some}
use Rattle.std.specs.declared.result.Result.{Result}
use Rattle.std.specs.declared.result.Result.TheVariants.{Ok, Err}
use Rattle.br_model.specs.declared.change.Change.{Change}
use Rattle.br_model.specs.declared.listing.Listing.{Listing}
use Rattle.br_model.specs.declared.scenario.LineWhy.{LineWhy}
use Rattle.br_model.specs.declared.scenario.Said.{Said}
use Rattle.br_model.specs.declared.scenario.Said.TheVariants as said
use Rattle.br_model.specs.declared.steps.Step.{Step}
use Rattle.br_model.specs.declared.transcript.Line.{Line}
use Rattle.br_model.specs.declared.transcript.Line.TheVariants.{End}
use Rattle.br_model.specs.Program.Listings.{listing_text}
use Rattle.br_model.specs.Text.Operands.{longest_section}
use Rattle.br_model.specs.Plane.Runs.{end_line}
use Rattle.br_model.specs.Plane.Steps.{world_step}
use Rattle.br_model.specs.Plane.World.{World, first_world}
use Rattle.br_model.specs.Table.Domains.{chip_domains}
use Rattle.br_model.specs.Text.Roster.{Entry, Roster, chips_of}
use Rattle.br_model.specs.Program.Runs.{run_of, body_of, setup_of}
use Rattle.br_model.specs.Text.Scenario.{Scenario, opened, bad, section_length, takes, whole_says}
use Rattle.br_model.specs.Table.Table.{table}
use Rattle.br_model.specs.Text.Transcript.{text, line_text, bad_text}
use Rattle.chip_audit.specs.Lines.{audited_text}
use Rattle.scenario_reader.specs.declared.reader.Captured.{Captured}
use Rattle.scenario_reader.specs.declared.reader.Captured.TheVariants as sections
use Rattle.scenario_reader.specs.declared.reader.Last.{Last}
use Rattle.scenario_reader.specs.declared.reader.Last.TheVariants as lasts
use Rattle.scenario_reader.specs.Reading as reading
use Rattle.scenario_reader.specs.Reading.{IsBehindDeclarations, captures, ending_of}
use Rattle.scenario_runner.specs.declared.session.Next.{Next}
use Rattle.scenario_runner.specs.declared.session.Next.TheVariants.{Line as NextLine, Section, End as NoMore}
use Rattle.scenario_runner.specs.declared.session.Session.{Session}
use Rattle.run_status.specs.declared.status.Status.{Status}
use Rattle.run_world.specs.declared.voice.Voice.{Voice}
use Rattle.run_status.specs.declared.status.Status.TheVariants as statuses
use Rattle.br_model.specs.Text.LineForms.{comes_by_line}
use Rattle.run_world.specs.Voices.{IsTuned, Says}

-- where there is a world, it has the chips of the declared ports, and no port can be declared any more
abbrev pub HasChips : Roster → Option World → Type 0
HasChips roster None = Unit {0}
HasChips roster (Some w) = (chip_domains w.setup.domains ≡ chips_of roster.ports) × IsBehindDeclarations roster

-- the command isn't `check`, and whoever says something of the run can go on
abbrev pub IsReady : Roster → Option World → Voice → Type 0
IsReady roster w voice = (roster.check ≡ false) × HasChips roster w × IsTuned w voice

-- after the declarations
abbrev pub IsAmongSteps : Scenario → Type 0
IsAmongSteps s = IsBehindDeclarations s.roster

-- the world after the steps so far, where there were any
abbrev pub IsWorld : Scenario → Option World → Type 0
IsWorld s None = s.steps ≡ []
IsWorld s (Some w) = (w ≡ (run_of s).0) × IsAmongSteps s

-- what was said is that of the scenario's run
abbrev pub IsSaid : Scenario → Voice → Type 0
IsSaid s voice = Says voice (setup_of s.roster) s.steps

-- the session's ports and world are those of the scenario, and so is what was said
pub record Agrees (s : Scenario) (x : Session) : Type 0 where
  pub ports : x.reader.roster.ports ≡ s.roster.ports
  pub world : IsWorld s x.world
  pub said : IsSaid s x.voice

-- and these steps more
abbrev pub with_steps : Scenario → List Step → Scenario
with_steps s steps = record s { steps = s.steps ++ steps }

-- the session has read what the scenario has, and the scenario goes on
pub record Follows (s : Scenario) (x : Session) : Type 0 where
  pub reads : reading.Follows s x.reader
  pub world : IsWorld s x.world
  pub said : IsSaid s x.voice

-- The session went on from one scenario to another, and added text for the steps between them.
pub record Went (s t : Scenario) (before : List ℕ) (x : Session) (after : List ℕ) : Type 0 where
  pub follows : Follows t x
  pub added : List ℕ
  pub text : after ≡ before ++ added
  pub body : body_of (run_of t) ≡ body_of (run_of s) ++ added

-- the scenario ends with a line, whose step isn't one
pub record Ends (s t : Scenario) (before : List ℕ) (x : Session) (after : List ℕ) (last : Last) : Type 0 where
  pub agrees : Agrees t x
  pub ends : t.ending ≡ ending_of last
  pub text : after ≡ before
  pub body : body_of (run_of t) ≡ body_of (run_of s)

abbrev pub EndsBy : Scenario → Result Said LineWhy → List ℕ → Session → List ℕ → Last → Type 0
EndsBy s (Err why) before x after last = Ends s (bad s why) before x after last
EndsBy s (Ok said) before x after last = (section_length said ≡ 0) × Ends s (takes s said []) before x after last

-- a line was taken
abbrev pub Took : Scenario → List ℕ → List ℕ → Session → List ℕ → Next → Type 0
Took s line before x after NextLine = (said : Said) × (whole_says s.roster line ≡ Ok said) × (section_length said ≡ 0) × Went s (takes s said []) before x after
Took s line before x after (Section n) =
    (whole_says s.roster line ≡ Ok (said.Captures n)) × (n ≤ longest_section) × IsWorld s x.world × Went s (captures s n) before x after
Took s line before x after (NoMore last) = EndsBy s (whole_says s.roster line) before x after last

abbrev pub Takes : Session → List ℕ → List ℕ → Session → List ℕ → Next → Type 0
Takes old line before new after next = (s : Scenario) → Follows s old → Took s line before new after next

-- each step is one that a line can give where these domains have switch chips
abbrev pub ComeByLine : List ℕ → Captured → Type 0
ComeByLine chips (sections.Steps steps) = list_all (comes_by_line false chips) steps.items ≡ true
ComeByLine chips (sections.End last) = Unit {0}

-- the world of a session before a step
abbrev pub world_of : Roster → Option World → World
world_of roster None = first_world (setup_of roster)
world_of roster (Some w) = w

-- the session after the step in that world
abbrev pub IsAfter : World → Step → Session → Type 0
IsAfter w step x = (x.world ≡ Some (world_step w step).0) × (x.told.lines ≡ (world_step w step).1)

-- it is said, whatever steps were before
abbrev pub SaysOn : Session → Step → Session → Type 0
SaysOn old step new = (s : Scenario) → IsWorld s old.world → setup_of old.reader.roster ≡ setup_of s.roster → IsSaid s old.voice
    → Says new.voice (setup_of s.roster) (s.steps ++ step ∷ [])

-- nothing was said
abbrev pub SaysNothing : Voice → Type 0
SaysNothing voice = IsSaid (opened false) voice

-- a step was done
pub record Does (old : Session) (step : Step) (before : List ℕ) (new : Session) (after : List ℕ) : Type 0 where
  pub reader : new.reader ≡ old.reader
  pub world : new.world ≡ Some (world_step (world_of old.reader.roster old.world) step).0
  pub text : after ≡ before ++ text (world_step (world_of old.reader.roster old.world) step).1
  pub says : SaysOn old step new

abbrev pub end_line_of : Option World → Line
end_line_of None = End 0 0 0 0
end_line_of (Some w) = end_line w

abbrev pub history_of : Option World → List Change
history_of None = []
history_of (Some w) = w.history

-- the listing of a scenario that has ended so
abbrev pub listing_or_bad : Listing → Last → List Entry → Option World → List ℕ
listing_or_bad listing lasts.Ended ports w = listing_text listing ports (table (history_of w))
listing_or_bad listing (lasts.Bad n why) ports w = bad_text n why

-- the audit of the chips of a scenario that has ended so
abbrev pub audit_or_bad : Last → Roster → Option World → List ℕ
audit_or_bad lasts.Ended roster w = audited_text roster.ports (world_of roster w)
audit_or_bad (lasts.Bad n why) roster w = bad_text n why

-- the status of a command whose scenario ends so
abbrev pub status_of : Last → Status
status_of lasts.Ended = statuses.Ok
status_of (lasts.Bad n why) = statuses.BadLine

-- the last line of a run
abbrev pub last_line : Last → Option World → List ℕ
last_line lasts.Ended w = line_text (end_line_of w)
last_line (lasts.Bad n why) w = bad_text n why
