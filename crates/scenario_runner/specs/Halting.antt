-- How the reading of a scenario ends. The source had `left` and has `now`; the sink had taken `before` and has taken `after`;
-- `text` is held by the output.
use Rattle.std.specs.Prelude.{◌≡◌, ◌⊎◌, ℕ, ◌<◌, List, [], ◌++◌, length, take, IfSome, String, string_bytes}
use Rattle.std.specs.declared.alloc.Global.{Global}
use Rattle.std.specs.Io.KnownBytes.{Appends, Consumes}
use Rattle.std.specs.declared.option.Option.{Option}
use Rattle.std.specs.declared.option.Option.TheVariants.{None, Some}
use Rattle.std.specs.declared.result.Result.{Result}
use Rattle.std.specs.declared.result.Result.TheVariants.{Ok, Err}
use Rattle.run_io.specs.Causes.{Rose}
use Rattle.run_io.specs.Reading.{Reading}
use Rattle.br_model.specs.declared.steps.Step.{Step}
use Rattle.br_model.specs.Table.Limits.{most_bytes}
use Rattle.br_model.specs.Program.Outcomes.{HoldsNoEnd, scenario_lines}
use Rattle.br_model.specs.Program.Runs.{run_of, body_of, told}
use Rattle.br_model.specs.Text.Scenario.{Scenario, scenario}
use Rattle.scenario_runner.specs.declared.replay.Halt.{Halt}
use Rattle.scenario_runner.specs.declared.replay.Halt.TheVariants.{Stopped, WriteFault}
use Rattle.run_status.specs.declared.stop.Stop.{Stop}
use Rattle.run_status.specs.declared.stop.Stop.TheVariants.{ReadFault, NoMemory, TooLong}
use Rattle.scenario_reader.specs.declared.reader.Last.{Last}
use Rattle.scenario_runner.specs.declared.session.Session.{Session}
use Rattle.run_status.specs.Statuses.{first_line}
use Rattle.run_status.specs.Writing.{Written}
use Rattle.scenario_runner.specs.Playing as playing
use Rattle.scenario_reader.specs.Reading.{ending_of}
use Rattle.scenario_runner.specs.Session.{Agrees, Follows, IsAmongSteps, with_steps}

-- the first line went to the sink
abbrev pub IsOpened : Option (List ℕ) → Option (List ℕ) → Type 0
IsOpened before after = (rest : List ℕ) × Appends before after (first_line ++ rest)

-- before anything was read
abbrev pub IsBehind : Option (List ℕ) → Option (List ℕ) → Option (List ℕ) → Option (List ℕ) → Type 0
IsBehind left now before after = Consumes left now [] ⊎ IsOpened before after

-- the scenario has ended, and all this is the answer to it
pub record Answered (answer : List ℕ → List ℕ) (left now : Option (List ℕ)) (all : List ℕ) (last : Last) : Type 0 where
  pub input : List ℕ
  pub read : Consumes left now input
  pub ends : (scenario input).ending ≡ ending_of last
  pub answers : all ≡ answer input
  pub whole : IfSome left (λ bytes. scenario bytes ≡ scenario input)
  pub within : IfSome left (λ bytes. ¬ HoldsNoEnd scenario_lines most_bytes bytes)

-- all is told of it
pub record Told (left now : Option (List ℕ)) (session : Session) (all : List ℕ) (last : Last) : Type 0 where
  pub answered : Answered told left now all last
  pub agrees : Agrees (scenario answered.input) session

-- The text is the answer. After want of memory only what was read is known.
abbrev pub Yields : (List ℕ → List ℕ) → Option (List ℕ) → Option (List ℕ) → Result (Last × String Global) Stop → Type 0
Yields answer left now (Ok x) = Answered answer left now (string_bytes x.1) x.0
Yields answer left now (Err ReadFault) = (text : List ℕ) × playing.Below left most_bytes now text
Yields answer left now (Err TooLong) = (text : List ℕ) × playing.Filled left most_bytes now text
Yields answer left now (Err NoMemory) = (input : List ℕ) × Consumes left now input

-- A run halts. After a failed write the sink lacks what is missing.
abbrev pub Halted : Option (List ℕ) → Option (List ℕ) → Option (List ℕ) → Option (List ℕ) → List ℕ → Halt → Type 0
Halted left now before after text (Stopped ReadFault) = (all : List ℕ) × Written before after text all × playing.Below left most_bytes now all
Halted left now before after text (Stopped TooLong) = (all : List ℕ) × Written before after text all × playing.Filled left most_bytes now all
Halted left now before after text (Stopped NoMemory) = (all : List ℕ) × Written before after text all × playing.Lacked left now all
Halted left now before after text WriteFault = (all missing : List ℕ) × Written before after missing all × playing.Lacked left now all

abbrev pub Plays : Option (List ℕ) → Option (List ℕ) → Session → Option (List ℕ) → Option (List ℕ) → List ℕ → Result Last Halt → Type 0
Plays left now session before after text (Ok last) = (all : List ℕ) × Written before after text all × Told left now session all last
Plays left now session before after text (Err halt) = Halted left now before after text halt

-- what is known after a section and its steps, by the answer
abbrev pub PlayedSection : Option (List ℕ) → Reading → Option (List ℕ) → Session → Option (List ℕ) → Option (List ℕ) → List ℕ → Result (Option Last) Halt → Type 0
PlayedSection left reader now session before after text (Ok None) =
    (all : List ℕ) × Written before after text all × playing.Playing left most_bytes reader now session all
PlayedSection left reader now session before after text (Ok (Some last)) =
    (all : List ℕ) × Written before after text all × playing.Played left most_bytes now session all last
PlayedSection left reader now session before after text (Err halt) = Halted left now before after text halt

-- whatever was read and written before it
abbrev pub PlaysSection : Reading → Reading → Option (List ℕ) → Option (List ℕ) → Session → Session → Option (List ℕ) → Option (List ℕ) → List ℕ → List ℕ → ℕ → Result (Option Last) Halt → Type 0
PlaysSection old_reader reader left_before left_now old_session session taken_before taken_now old_text text n result =
    (left before : Option (List ℕ)) (all : List ℕ) → Written before taken_before old_text all → playing.AtSection left most_bytes old_reader left_before old_session all n
    → PlayedSection left reader left_now session before taken_now text result

-- these steps were done, and all that was written since the run began is told of them
pub record Did (t : Scenario) (session : Session) (before after : Option (List ℕ)) (text : List ℕ) : Type 0 where
  pub all : List ℕ
  pub written : Written before after text all
  pub follows : Follows t session
  pub told : all ≡ body_of (run_of t)

-- the first of these steps were done, and all is told of them
pub record DidSome (s : Scenario) (steps : List Step) (all : List ℕ) : Type 0 where
  pub done : List Step
  pub undone : List Step
  pub parts : steps ≡ done ++ undone
  pub told : all ≡ body_of (run_of (with_steps s done))

-- steps halt
abbrev pub HaltedIn : Scenario → List Step → Option (List ℕ) → Option (List ℕ) → List ℕ → Halt → Type 0
HaltedIn s steps before after text (Stopped ReadFault) = ⊥
HaltedIn s steps before after text (Stopped TooLong) = ⊥
HaltedIn s steps before after text (Stopped NoMemory) = (all : List ℕ) × Written before after text all × DidSome s steps all
HaltedIn s steps before after text WriteFault = (all missing : List ℕ) × Written before after missing all × DidSome s steps all

abbrev pub DoesSome : Session → List Step → Option (List ℕ) → Option (List ℕ) → List ℕ → List ℕ → Halt → Type 0
DoesSome old steps taken_before taken_now old_text text halt =
    (s : Scenario) (before : Option (List ℕ)) → IsAmongSteps s → Did s old before taken_before old_text → HaltedIn s steps before taken_now text halt

abbrev pub DoesAll : Session → List Step → Session → Option (List ℕ) → Option (List ℕ) → List ℕ → List ℕ → Type 0
DoesAll old steps session taken_before taken_now old_text text =
    (s : Scenario) (before : Option (List ℕ)) → IsAmongSteps s → Did s old before taken_before old_text → Did (with_steps s steps) session before taken_now text

-- when steps may stop: only for want of memory, and where a write failed
abbrev pub Stalls : ℕ → ℕ → Result (Unit {0}) Halt → Type 0
Stalls writes_before writes_now (Ok done) = Unit {0}
Stalls writes_before writes_now (Err (Stopped ReadFault)) = ⊥
Stalls writes_before writes_now (Err (Stopped TooLong)) = ⊥
Stalls writes_before writes_now (Err (Stopped NoMemory)) = Unit {0}
Stalls writes_before writes_now (Err WriteFault) = Rose writes_before writes_now

-- a fault comes only where its count rose
abbrev pub Halts : {T : Type 0} → ℕ → ℕ → ℕ → ℕ → Result T Halt → Type 0
Halts reads_before reads_now writes_before writes_now (Ok x) = Unit {0}
Halts reads_before reads_now writes_before writes_now (Err (Stopped ReadFault)) = Rose reads_before reads_now
Halts reads_before reads_now writes_before writes_now (Err (Stopped TooLong)) = Unit {0}
Halts reads_before reads_now writes_before writes_now (Err (Stopped NoMemory)) = Unit {0}
Halts reads_before reads_now writes_before writes_now (Err WriteFault) = Rose writes_before writes_now
