-- What the lines of a scenario tell, one after another.
use Rattle.std.specs.Prelude.{◌≡◌, ℕ, ◌≤◌, true, false, List, [], ◌∷◌, ◌++◌, length}
use Rattle.std.specs.declared.option.Option.{Option}
use Rattle.std.specs.declared.option.Option.TheVariants.{None, Some}
use Rattle.std.specs.declared.result.Result.TheVariants.{Ok}
use Rattle.br_model.specs.declared.scenario.Said.TheVariants as said
use Rattle.br_model.specs.declared.steps.Step.{Step}
use Rattle.br_model.specs.declared.transcript.Line.{Line}
use Rattle.br_model.specs.Plane.Steps.{world_step}
use Rattle.br_model.specs.Plane.World.{World, first_world}
use Rattle.br_model.specs.Program.Runs.{body_of, run_of, setup_of}
use Rattle.br_model.specs.Table.Domains.{chip_domains}
use Rattle.br_model.specs.Table.Setup.{Setup}
use Rattle.br_model.specs.Text.Operands.{longest_section}
use Rattle.br_model.specs.Text.Roster.{Roster, chips_of}
use Rattle.br_model.specs.Text.Scenario.{Scenario, Progress, Going, closes, read, reads, whole_says}
use Rattle.br_model.specs.Text.Transcript.{bad_text, line_text, text}
use Rattle.br_model.specs.Theorems.Invariants.{IsWorld}
use Rattle.br_model.specs.Theorems.WholeLines.{is_line}
use Rattle.scenario_reader.specs.declared.reader.Last.{Last}
use Rattle.scenario_reader.specs.declared.reader.Last.TheVariants as lasts
use Rattle.scenario_reader.specs.Reading.{Follows, IsBehindDeclarations, ReaderState, captures, ending_of}
use Rattle.scenario_play.specs.declared.play.Taken.{Taken}
use Rattle.scenario_play.specs.declared.play.Taken.TheVariants as taken
use Rattle.scenario_play.specs.declared.play.Play.{Play}
use Rattle.scenario_play.specs.Stages.{Keeps, Standing, end_line_of}
use Rattle.scenario_play.specs.declared.play.Went.{Went}
use Rattle.scenario_play.specs.declared.play.Went.TheVariants.{On, Ends}

-- what was read, the stage, and the text so far
pub record Played : Type 1 where
  pub reader : ReaderState
  pub stage : Standing
  pub text : List ℕ

abbrev pub played : Play → Standing → List ℕ → Played
played x stage text = record { reader = x.reader; stage = stage; text = text }

-- what is told of a scenario

-- the world before the next step
abbrev pub world_of : Roster → Option World → World
world_of roster None = first_world (setup_of roster)
world_of roster (Some w) = w

-- a world stands, and its domains with chips are the declared ones
abbrev pub IsReady : Roster → Option World → Type 0
IsReady roster None = Unit {0}
IsReady roster (Some w) = IsWorld w × (chip_domains w.setup.domains ≡ chips_of roster.ports)

-- the same, and where there is a world no port can be declared any more
abbrev pub IsSteady : Roster → Option World → Type 0
IsSteady roster None = Unit {0}
IsSteady roster (Some w) = IsReady roster (Some w) × IsBehindDeclarations roster

-- the world after the scenario's steps, where there are any
abbrev pub HasRun : Scenario → Option World → Type 0
HasRun s None = s.steps ≡ []
HasRun s (Some w) = (w ≡ (run_of s).0) × IsBehindDeclarations s.roster

-- what a line can give can be done on the stage, and whoever speaks of the run can go on
abbrev pub Fits : Roster → Standing → Type 0
Fits roster x = (x.checks ≡ false → roster.check ≡ false) × x.sound

-- what holds of what was said, where there are steps
abbrev pub AlsoIn : Option World → (Setup → List Step → Type 0) → Scenario → Type 0
AlsoIn None also s = Unit {0}
AlsoIn (Some w) also s = also (setup_of s.roster) s.steps

-- Some text was given before; with this one it is all that is told of the scenario before its last line.
pub record IsTold (given : List ℕ) (s : Scenario) (x : Standing) (all : List ℕ) : Type 0 where
  pub ran : HasRun s x.world
  pub ready : IsReady s.roster x.world
  pub also : AlsoIn x.world x.also s
  pub body : given ++ all ≡ body_of (run_of s)

-- The scenario goes on, and was read so far.
pub record Stands (given : List ℕ) (s : Scenario) (x : Played) : Type 0 where
  pub follows : Follows s x.reader
  pub so : IsTold given s x.stage x.text

-- The scenario ends so.
pub record IsOver (given : List ℕ) (s : Scenario) (x : Standing) (all : List ℕ) (last : Last) : Type 0 where
  pub ends : s.ending ≡ ending_of last
  pub so : IsTold given s x all

-- steps

-- The stage has a world: the one that was there, or a new one.
pub record HasBegun (roster : Roster) (old new : Standing) : Type 0 where
  pub world : new.world ≡ Some (world_of roster old.world)
  pub ready : IsReady roster new.world
  pub fits : Fits roster new
  pub keeps : Keeps old new
  pub also : (s : Scenario) → HasRun s old.world → setup_of roster ≡ setup_of s.roster → AlsoIn old.world old.also s → new.also (setup_of s.roster) s.steps

-- a step was done, and has these lines
pub record IsDone (roster : Roster) (old : Standing) (step : Step) (new : Standing) (told : List Line) : Type 0 where
  pub ready : IsReady roster new.world
  pub fits : Fits roster new
  pub keeps : Keeps old new
  pub world : new.world ≡ Some (world_step (world_of roster old.world) step).0
  pub lines : told ≡ (world_step (world_of roster old.world) step).1
  pub also : (s : Scenario) → HasRun s old.world → setup_of roster ≡ setup_of s.roster → AlsoIn old.world old.also s
      → new.also (setup_of s.roster) (s.steps ++ step ∷ [])

-- and was written
pub record Does (old : Played) (step : Step) (new : Played) : Type 0 where
  pub reader : new.reader ≡ old.reader
  pub done : IsDone old.reader.roster old.stage step new.stage (world_step (world_of old.reader.roster old.stage.world) step).1
  pub text : new.text ≡ old.text ++ text (world_step (world_of old.reader.roster old.stage.world) step).1

-- and these steps more
abbrev pub with_steps : Scenario → List Step → Scenario
with_steps s steps = record s { steps = s.steps ++ steps }

-- steps were done, whatever was before them
abbrev pub DoesAll : Played → List Step → Played → Type 0
DoesAll old steps new = (given : List ℕ) (s : Scenario) → IsBehindDeclarations s.roster → Stands given s old → Stands given (with_steps s steps) new

-- lines

-- A line `capture` of so many bytes was read, its section is next.
pub record AtSection (given : List ℕ) (s : Scenario) (line : List ℕ) (n : ℕ) (x : Played) : Type 0 where
  pub feedless : is_line line ≡ true
  pub says : whole_says s.roster line ≡ Ok (said.Captures n)
  pub going : s.ending ≡ Going
  pub follows : Follows (captures s n) x.reader
  pub so : IsTold given s x.stage x.text

-- Whatever comes behind these bytes, this scenario reads it on.
pub record ReadsOn (given : List ℕ) (s : Scenario) (front : List ℕ → List ℕ) (x : Played) : Type 0 where
  pub scenario : Scenario
  pub reads_so : (more : List ℕ) → read 0 s (front more) ≡ read 0 scenario more
  pub stands : Stands given scenario x

-- Whatever comes behind them, the scenario ends so.
pub record EndsIn (given : List ℕ) (s : Scenario) (front : List ℕ → List ℕ) (x : Played) (last : Last) : Type 0 where
  pub scenario : Scenario
  pub reads_so : (more : List ℕ) → reads s (front more) ≡ scenario
  pub ports : x.reader.roster.ports ≡ scenario.roster.ports
  pub over : IsOver given scenario x.stage x.text last

-- A whole line was taken: nothing more is to be done, its section is next, or the scenario ends so.
abbrev pub After : List ℕ → Scenario → List ℕ → Played → Taken → Type 0
After given s line x taken.On = ReadsOn given s (λ more. line ++ 10 ∷ more) x
After given s line x (taken.Section n) = AtSection given s line n x
After given s line x (taken.Ends last) = EndsIn given s (λ more. line ++ 10 ∷ more) x last

-- its section, too
abbrev pub AfterSection : List ℕ → Scenario → List ℕ → List ℕ → Played → Option Last → Type 0
AfterSection given s line section x None = ReadsOn given s (λ more. line ++ 10 ∷ (section ++ more)) x
AfterSection given s line section x (Some last) = EndsIn given s (λ more. line ++ 10 ∷ (section ++ more)) x last

-- what a reader has behind a line
abbrev pub IsBehind : Roster → Taken → Type 0
IsBehind roster taken.On = Unit {0}
IsBehind roster (taken.Section n) = (n ≤ longest_section) × IsBehindDeclarations roster
IsBehind roster (taken.Ends last) = Unit {0}

-- where the bytes end there
abbrev pub closing : Progress → Scenario
closing p = closes p.scenario p.line

-- Of these bytes the last ones are left, before which the scenario goes on.
pub record GoesOn (s : Scenario) (bytes : List ℕ) (x : Played) (rest : List ℕ) : Type 0 where
  pub scenario : Scenario
  pub reads_so : read 0 s bytes ≡ read 0 scenario rest
  pub stands : Stands [] scenario x
  pub fits : Fits x.reader.roster x.stage

abbrev pub Goes : Scenario → List ℕ → Played → Went → Type 0
Goes s bytes x (On rest) = GoesOn s bytes x rest.now
Goes s bytes x (Ends last) = IsOver [] (closing (read 0 s bytes)) x.stage x.text last

-- no more is left than was behind the line
abbrev pub IsLeft : List ℕ → Went → Type 0
IsLeft behind (On rest) = length rest.now ≤ length behind
IsLeft behind (Ends last) = Unit {0}

-- the last line

abbrev pub last_line : Last → Option World → List ℕ
last_line lasts.Ended w = line_text (end_line_of w)
last_line (lasts.Bad n why) w = bad_text n why
