-- What a check finds, and how it ends once that is written.
use Rattle.std.specs.Prelude.{◌≡◌, ℕ, true, List}
use Rattle.std.specs.declared.option.Option.{Option}
use Rattle.std.specs.declared.option.Option.TheVariants.{None, Some}
use Rattle.std.specs.declared.result.Result.{Result}
use Rattle.std.specs.declared.result.Result.TheVariants.{Ok, Err}
use Rattle.std.specs.Io.KnownBytes.{Appends}
use Rattle.br_model.specs.declared.scenario.LineWhy.{LineWhy}
use Rattle.br_model.specs.Program.Checks.{Difference, ReadsOn, check_answer, checked}
use Rattle.br_model.specs.Text.Scenario.{Bad, opened, reads, scenario_by}
use Rattle.br_model.specs.Text.Transcript.{bad_text}
use Rattle.scenario_reader.specs.declared.reader.Last.{Last}
use Rattle.scenario_reader.specs.declared.reader.Last.TheVariants as lasts
use Rattle.scenario_reader.specs.Reading.{ending_of}
use Rattle.check_answer.specs.declared.checking.Found.{Found}
use Rattle.run_status.specs.declared.stop.Stop.{Stop}
use Rattle.run_status.specs.declared.stop.Stop.TheVariants as stops
use Rattle.run_status.specs.declared.status.Status.{Status}
use Rattle.run_status.specs.declared.status.Status.TheVariants as statuses
use Rattle.run_status.specs.Statuses.{At, call_of, check_ways}
use Rattle.run_status.specs.Stopping.{stop_line, stop_status}

abbrev pub answer_status : Option Difference → Status
answer_status None = statuses.Ok
answer_status (Some d) = statuses.No

-- the status of what is found
abbrev pub found_status : Last → Option Difference → Status
found_status lasts.Ended d = answer_status d
found_status (lasts.Bad n why) d = statuses.BadLine

-- what is found may have this status
abbrev pub IsSaid : Status → Type 0
IsSaid statuses.Ok = Unit {0}
IsSaid statuses.No = Unit {0}
IsSaid statuses.Usage = ⊥
IsSaid statuses.BadLine = Unit {0}
IsSaid statuses.ReadFault = ⊥
IsSaid statuses.WriteFault = ⊥
IsSaid statuses.NoMemory = ⊥
IsSaid statuses.TooLong = ⊥

-- This is found in these bytes, which are all.
pub record IsFound (bytes : List ℕ) (found : Found) : Type 0 where
  pub last : Last
  pub ends : (scenario_by true bytes).ending ≡ ending_of last
  pub text : found.text.items ≡ check_answer bytes
  pub status : found.status ≡ found_status last (checked bytes)

-- the scenario has this bad line
abbrev pub IsFoundBad : ℕ → LineWhy → Found → Type 0
IsFoundBad line why found = (found.text.items ≡ bad_text line why) × (found.status ≡ statuses.BadLine)

-- The whole lines of these bytes end the scenario with a bad one, and that is found; else the check stops for this cause.
abbrev pub SeesBadOr : List ℕ → Stop → Result Found Stop → Type 0
SeesBadOr bytes stop (Ok found) = (line : ℕ) × (why : LineWhy) × ((reads (opened true) bytes).ending ≡ Bad line why) × IsFoundBad line why found
SeesBadOr bytes stop (Err stops.NoMemory) = Unit {0}
SeesBadOr bytes stop (Err stops.ReadFault) = (stop ≡ stops.ReadFault) × ReadsOn bytes
SeesBadOr bytes stop (Err stops.TooLong) = (stop ≡ stops.TooLong) × ReadsOn bytes

-- Once this text is written, the check has ended with this status.
abbrev pub EndsSo : Type 0 → Option (List ℕ) → Option (List ℕ) → List ℕ → Status → Type 0
EndsSo failed left now text status =
    (before after : Option (List ℕ)) → Appends before after text → At (check_ways failed) status (call_of left now before after)

-- the same of its answer, or of the last line where it stops
abbrev pub ChecksSo : Type 0 → Option (List ℕ) → Option (List ℕ) → Result Found Stop → Type 0
ChecksSo failed left now (Ok found) = EndsSo failed left now found.text.items found.status
ChecksSo failed left now (Err stop) = EndsSo failed left now (stop_line stop) (stop_status stop)
