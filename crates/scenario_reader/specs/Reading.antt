-- A reader has read the lines of a scenario up to here.
use Rattle.std.specs.Prelude.{◌≡◌, ℕ, ◌+◌, ◌≤◌, List, [], length, true, false}
use Rattle.std.specs.declared.result.Result.{Result}
use Rattle.std.specs.declared.result.Result.TheVariants.{Ok, Err}
use Rattle.br_model.specs.declared.scenario.LineWhy.{LineWhy}
use Rattle.br_model.specs.declared.scenario.Said.{Said}
use Rattle.br_model.specs.declared.scenario.Said.TheVariants as said
use Rattle.br_model.specs.Program.Runs.{setup_of}
use Rattle.br_model.specs.Text.LineForms.{comes_by_line, declaration, opening}
use Rattle.br_model.specs.Text.Operands.{longest_section}
use Rattle.br_model.specs.Text.Roster.{Roster, chips_of}
use Rattle.br_model.specs.Text.Scenario.{Scenario, Ending, Going, Ended, Bad, captured, section_length, takes, takes_steps, whole_says}
use Rattle.br_model.specs.Wire.Captures.{packets}
use Rattle.scenario_reader.specs.declared.reader.Captured.{Captured}
use Rattle.scenario_reader.specs.declared.reader.Captured.TheVariants as sections
use Rattle.scenario_reader.specs.declared.reader.Last.{Last}
use Rattle.scenario_reader.specs.declared.reader.Last.TheVariants as lasts
use Rattle.scenario_reader.specs.declared.reader.Next.{Next}
use Rattle.scenario_reader.specs.declared.reader.Next.TheVariants as nexts
use Rattle.scenario_reader.specs.Section.{ComeByLine}

-- how many lines were read, and what they declare
pub record ReaderState : Type 0 where
  pub lines : ℕ
  pub roster : Roster

-- no port can be declared any more
abbrev pub IsBehindDeclarations : Roster → Type 0
IsBehindDeclarations roster = (declaration roster.place ≡ false) × (opening roster.place ≡ false)

-- The command is the same; and where no port can be declared any more, it stays so, and so does what is said before the steps.
abbrev pub KeepsSetup : Roster → Roster → Type 0
KeepsSetup old new =
    (new.check ≡ old.check) × (IsBehindDeclarations old → IsBehindDeclarations new × ((setup_of new ≡ setup_of old) × (new.ports ≡ old.ports)))

-- the reader has read what the scenario has, and the scenario goes on
pub record Follows (s : Scenario) (x : ReaderState) : Type 0 where
  pub lines : x.lines ≡ s.lines
  pub roster : x.roster ≡ s.roster
  pub going : s.ending ≡ Going

-- how the scenario ends, in the words of its definition
abbrev pub ending_of : Last → Ending
ending_of lasts.Ended = Ended
ending_of (lasts.Bad n why) = Bad n why

-- after a line `capture`, its section left out
abbrev pub captures : Scenario → ℕ → Scenario
captures s n = takes_steps s (said.Captures n) (Ok [])

-- the scenario ends with a line that says this
abbrev pub EndsBy : Scenario → Result Said LineWhy → Last → Type 0
EndsBy s (Err why) last = last ≡ lasts.Bad (s.lines + 1) why
EndsBy s (Ok what) last = (what ≡ said.Ends) × (last ≡ lasts.Ended)

-- A line was taken: nothing is to be done, a step, a section of so many bytes follows, or the scenario ends.
abbrev pub Took : Scenario → List ℕ → ReaderState → Next → Type 0
Took s line x nexts.Line =
    (what : Said) × (whole_says s.roster line ≡ Ok what) × (section_length what ≡ 0) × ((takes s what []).steps ≡ s.steps) × Follows (takes s what []) x × KeepsSetup s.roster x.roster
Took s line x (nexts.Step step) =
    (whole_says s.roster line ≡ Ok (said.Does step)) × Follows (takes s (said.Does step) []) x × (comes_by_line s.roster.check (chips_of s.roster.ports) step ≡ true)
Took s line x (nexts.Section n) = (whole_says s.roster line ≡ Ok (said.Captures n)) × (n ≤ longest_section) × Follows (captures s n) x
Took s line x (nexts.End last) = EndsBy s (whole_says s.roster line) last × (x.roster ≡ s.roster)

abbrev pub Takes : ReaderState → List ℕ → ReaderState → Next → Type 0
Takes old line new next = (s : Scenario) → Follows s old → Took s line new next

-- what the section of the line before gives
abbrev pub IsCaptured : ReaderState → List ℕ → Captured → Type 0
IsCaptured x section (sections.Steps steps) =
    (captured x.roster.ports (packets section (length x.roster.ports)) ≡ Ok steps.items) × ComeByLine (chips_of x.roster.ports) steps.items
IsCaptured x section (sections.End last) =
    (why : LineWhy) × (captured x.roster.ports (packets section (length x.roster.ports)) ≡ Err why) × (last ≡ lasts.Bad x.lines why)
