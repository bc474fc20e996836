-- What a replay has done so far, and how it ends. The source had `left` when the run began and has `now`; `text` is what was
-- written since then, that which a buffer still holds included.
use Rattle.std.specs.Prelude.{◌≡◌, ℕ, ◌+◌, ◌<◌, ◌≤◌, true, false, List, [], ◌∷◌, ◌++◌, length, IfSome}
use Rattle.std.specs.declared.option.Option.{Option}
use Rattle.std.specs.declared.option.Option.TheVariants.{None}
use Rattle.std.specs.declared.result.Result.TheVariants.{Ok}
use Rattle.std.specs.Io.KnownBytes.{Consumes}
use Rattle.run_io.specs.Reading.{Reading}
use Rattle.br_model.specs.declared.scenario.Said.TheVariants.{Captures}
use Rattle.br_model.specs.declared.steps.Step.{Step}
use Rattle.br_model.specs.Text.Operands.{longest_section}
use Rattle.br_model.specs.Program.Outcomes.{GoesOn, HoldsNoEnd, scenario_lines}
use Rattle.br_model.specs.Program.Runs.{run_of, body_of, body, body_parts}
use Rattle.br_model.specs.Text.Scenario.{Scenario, Going, opened, read, scenario, whole_says}
use Rattle.br_model.specs.Theorems.WholeLines.{is_line}
use Rattle.scenario_reader.specs.declared.reader.Last.{Last}
use Rattle.scenario_runner.specs.declared.session.Session.{Session}
use Rattle.scenario_reader.specs.Reading.{captures, ending_of}
use Rattle.scenario_runner.specs.Session.{Agrees, Follows, IsWorld, IsAmongSteps, with_steps}

-- The source gave some bytes: at first the lines that the scenario has read, then the bytes `ahead`, which were handed out, and
-- then what the reader holds.
pub record Reached (left : Option (List ℕ)) (limit : ℕ) (reader : Reading) (now : Option (List ℕ)) (s : Scenario) (ahead : List ℕ) : Type 0 where
  pub lines : List ℕ
  pub input : List ℕ
  pub given : Consumes left now input
  pub parts : input ≡ lines ++ (ahead ++ reader.held)
  pub reads : (more : List ℕ) → read 0 (opened false) (lines ++ more) ≡ read 0 s more
  pub counts : reader.taken ≡ length input
  pub within : reader.taken ≤ limit
  pub limited : reader.limit ≡ limit

-- the run is between two lines
pub record Playing (left : Option (List ℕ)) (limit : ℕ) (reader : Reading) (now : Option (List ℕ)) (session : Session) (text : List ℕ) : Type 0 where
  pub scenario : Scenario
  pub reached : Reached left limit reader now scenario []
  pub follows : Follows scenario session
  pub told : text ≡ body_of (run_of scenario)
  pub numbers : session.reader.lines ≤ length reached.lines
  pub sound : reader.fault ≡ None

-- the run is behind a line `capture`, before its section of n bytes
pub record AtSection (left : Option (List ℕ)) (limit : ℕ) (reader : Reading) (now : Option (List ℕ)) (session : Session) (text : List ℕ) (n : ℕ) : Type 0 where
  pub scenario : Scenario
  pub going : scenario.ending ≡ Going
  pub line : List ℕ
  pub feedless : is_line line ≡ true
  pub says : whole_says scenario.roster line ≡ Ok (Captures n)
  pub most : n ≤ longest_section
  pub reached : Reached left limit reader now scenario (line ++ 10 ∷ [])
  pub follows : Follows (captures scenario n) session
  pub world : IsWorld scenario session.world
  pub told : text ≡ body_of (run_of (captures scenario n))
  pub numbers : session.reader.lines ≤ length reached.lines + 1
  pub sound : reader.fault ≡ None

-- The run has read a section, and these are the steps that come next: the scenario has them already.
pub record AtSteps (left : Option (List ℕ)) (limit : ℕ) (reader : Reading) (now : Option (List ℕ)) (session : Session) (text : List ℕ) (steps : List Step) : Type 0 where
  pub before : Scenario
  pub place : IsAmongSteps before
  pub reached : Reached left limit reader now (with_steps before steps) []
  pub follows : Follows before session
  pub told : text ≡ body_of (run_of before)
  pub numbers : session.reader.lines ≤ length reached.lines
  pub sound : reader.fault ≡ None

-- the scenario has ended: all but the last line of the transcript is written
pub record Played (left : Option (List ℕ)) (limit : ℕ) (now : Option (List ℕ)) (session : Session) (text : List ℕ) (last : Last) : Type 0 where
  pub input : List ℕ
  pub read : Consumes left now input
  pub ends : (scenario input).ending ≡ ending_of last
  pub agrees : Agrees (scenario input) session
  pub told : text ≡ body input
  pub whole : IfSome left (λ bytes. scenario bytes ≡ scenario input)
  pub within : IfSome left (λ bytes. ¬ HoldsNoEnd scenario_lines limit bytes)

-- The run stops: what is written is the body of what the source gave, which neither ends the scenario nor holds a bad line.
pub record Stopped (left : Option (List ℕ)) (now : Option (List ℕ)) (text : List ℕ) : Type 0 where
  pub input : List ℕ
  pub read : Consumes left now input
  pub going : GoesOn scenario_lines input
  pub told : text ≡ body input

-- fewer bytes were read than may be
pub record Below (left : Option (List ℕ)) (limit : ℕ) (now : Option (List ℕ)) (text : List ℕ) : Type 0 where
  pub stops : Stopped left now text
  pub below : length stops.input < limit

-- as many bytes as may be were read
pub record Filled (left : Option (List ℕ)) (limit : ℕ) (now : Option (List ℕ)) (text : List ℕ) : Type 0 where
  pub stops : Stopped left now text
  pub full : length stops.input ≡ limit

-- Memory is lacking: what is written is the first parts of the body of what the source gave, so many of them.
pub record Lacked (left now : Option (List ℕ)) (text : List ℕ) : Type 0 where
  pub input : List ℕ
  pub read : Consumes left now input
  pub count : ℕ
  pub told : text ≡ body_parts count input
