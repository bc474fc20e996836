-- What a replay writes for the bytes of a scenario: the run of the world with chips.
-- Source: this profile.
use Rattle.std.specs.Prelude.{ℕ, zero, suc, Bool, List, [], ◌∷◌, ◌++◌, take, codes}
use Rattle.br_model.specs.Plane.Runs.{run, end_line}
use Rattle.br_model.specs.Plane.World.{World, Stepped}
use Rattle.br_model.specs.Text.Roster.{Roster, domains_of}
use Rattle.br_model.specs.Text.Scenario.{Scenario, Ending, Going, Ended, Bad, scenario, scenario_by}
use Rattle.br_model.specs.Table.Setup.{Setup}
use Rattle.br_model.specs.Text.Transcript.{text, line_text, bad_text}

abbrev pub setup_of : Roster → Setup
setup_of roster = record { domains = domains_of roster.edition roster.ports; own = roster.own }

-- the run of what a scenario has said
abbrev pub run_of : Scenario → Stepped
run_of s = run (setup_of s.roster) s.steps

-- the first line, and the text of the steps' lines
abbrev pub body_of : Stepped → List ℕ
body_of x = codes "transcript 1" ++ 10 ∷ text x.1

abbrev pub last_text : Ending → World → List ℕ
last_text Going w = []
last_text Ended w = line_text (end_line w)
last_text (Bad n why) w = bad_text n why

abbrev pub bad_alone : Ending → List ℕ
bad_alone Going = []
bad_alone Ended = []
bad_alone (Bad n why) = bad_text n why

abbrev pub told_of : Scenario → List ℕ
told_of s = body_of (run_of s) ++ last_text s.ending (run_of s).0

-- what is written before the last line
unfoldable pub body : List ℕ → List ℕ
body bytes = body_of (run_of (scenario bytes))

-- The first parts of it, so many: its first line is one, and the lines of a step are one.
unfoldable pub body_parts : ℕ → List ℕ → List ℕ
body_parts zero bytes = []
body_parts (suc n) bytes = let s = scenario bytes in body_of (run (setup_of s.roster) (take n s.steps))

-- all that is written
unfoldable pub told : List ℕ → List ℕ
told bytes = told_of (scenario bytes)

-- the same, where `check` says whether the command is `check`, which alone reads posts that name a point
unfoldable pub told_by : Bool → List ℕ → List ℕ
told_by check bytes = told_of (scenario_by check bytes)

-- what is written where the scenario is bad and nothing stands before the cause
unfoldable pub bad_told : List ℕ → List ℕ
bad_told bytes = bad_alone (scenario bytes).ending
