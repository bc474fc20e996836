-- What an input is answered, and how a command ends that answers it.
-- Source: this profile.
use Rattle.std.specs.Prelude.{◌≡◌, ℕ, Bool, true, false, List, ◌++◌, IfSome, string_bytes}
use Rattle.std.specs.declared.option.Option.{Option}
use Rattle.std.specs.declared.option.Option.TheVariants.{None, Some}
use Rattle.std.specs.declared.result.Result.{Result}
use Rattle.std.specs.declared.result.Result.TheVariants.{Ok, Err}
use Rattle.std.specs.Io.KnownBytes.{Appends}
use Rattle.br_model.specs.declared.scenario.LineWhy.{LineWhy}
use Rattle.br_model.specs.Program.Outcomes.{Answers, Call, GoesOn, IsNotTooLong, Lines}
use Rattle.br_model.specs.Table.Limits.{most_bytes}
use Rattle.br_model.specs.Text.Scenario.{Ending}
use Rattle.run_status.specs.declared.status.Status.{Status}
use Rattle.run_status.specs.declared.status.Status.TheVariants as statuses
use Rattle.run_status.specs.declared.stop.Stop.{Stop}
use Rattle.run_status.specs.declared.stop.Stop.TheVariants as stops
use Rattle.run_status.specs.Statuses.{At, Ways, call_of, no_parts, nothing, reading_ways}
use Rattle.run_status.specs.Stopping.{stop_line, stop_status}
use Rattle.whole_answer.specs.declared.answer.Found.{Found}
use Rattle.whole_answer.specs.declared.answer.Verdict.{Verdict}
use Rattle.whole_answer.specs.declared.answer.Verdict.TheVariants.{Yes, No, Bad}

-- What is asked of an input: its lines, what is written of them, and of lines that end well whether the answer is yes.
pub record Asked : Type 0 where
  pub lines : Lines Ending LineWhy
  pub text : List ℕ → List ℕ
  pub yes : List ℕ → Bool

abbrev pub verdict_status : Verdict → Status
verdict_status Yes = statuses.Ok
verdict_status No = statuses.No
verdict_status Bad = statuses.BadLine

-- the verdict of bytes whose lines end so
abbrev pub HasVerdict : Asked → List ℕ → Ending → Verdict → Type 0
HasVerdict asked bytes ending Yes = (ending ≡ asked.lines.ended) × (asked.yes bytes ≡ true)
HasVerdict asked bytes ending No = (ending ≡ asked.lines.ended) × (asked.yes bytes ≡ false)
HasVerdict asked bytes ending Bad = (n : ℕ) × (why : LineWhy) × (ending ≡ asked.lines.bad n why)

-- This is found in these bytes, which are all.
pub record Finds (asked : Asked) (bytes : List ℕ) (found : Found) : Type 0 where
  pub text : string_bytes found.text ≡ asked.text bytes
  pub verdict : HasVerdict asked bytes (asked.lines.whole bytes) found.verdict

-- these bytes are answered as those
pub record IsSame (asked : Asked) (those bytes : List ℕ) : Type 0 where
  pub whole : asked.lines.whole bytes ≡ asked.lines.whole those
  pub text : asked.text bytes ≡ asked.text those
  pub yes : asked.yes bytes ≡ asked.yes those

-- Their lines have ended: that is found, and whatever follows changes nothing.
pub record Ends (asked : Asked) (bytes : List ℕ) (found : Found) : Type 0 where
  pub finds : Finds asked bytes found
  pub same : (rest : List ℕ) → IsSame asked bytes (bytes ++ rest)
  pub never : (rest : List ℕ) → ¬ GoesOn asked.lines (bytes ++ rest)

-- This is found in them whatever follows, or they go on.
abbrev pub Sees : Asked → List ℕ → Option Found → Type 0
Sees asked bytes None = GoesOn asked.lines bytes
Sees asked bytes (Some found) = Ends asked bytes found

-- The same, where the command stops for this cause if they go on.
abbrev pub SeesOr : Asked → List ℕ → Stop → Result Found Stop → Type 0
SeesOr asked bytes stop (Ok found) = Ends asked bytes found
SeesOr asked bytes stop (Err stops.NoMemory) = Unit {0}
SeesOr asked bytes stop (Err stops.ReadFault) = (stop ≡ stops.ReadFault) × GoesOn asked.lines bytes
SeesOr asked bytes stop (Err stops.TooLong) = (stop ≡ stops.TooLong) × GoesOn asked.lines bytes

-- The lines end well, the answer is this one, and the output is its text.
pub record Says (asked : Asked) (yes : Bool) (call : Call) : Type 0 where
  pub answers : Answers asked.lines asked.text call asked.lines.ended
  pub yes_so : asked.yes answers.input ≡ yes
  -- and so it would be of all that the source had left
  pub whole : IfSome call.left_before (λ bytes. asked.yes bytes ≡ yes)
  pub within : IsNotTooLong asked.lines most_bytes call

-- of a command that answers a whole input
abbrev pub answer_ways : Type 0 → Asked → Ways
answer_ways failed asked = record (reading_ways failed asked.lines most_bytes asked.text nothing no_parts) {
  Ok = Says asked true;
  No = Says asked false;
}

-- Once this text is written, the command has ended with this status.
abbrev pub EndsSo : Type 0 → Asked → Option (List ℕ) → Option (List ℕ) → List ℕ → Status → Type 0
EndsSo failed asked left now text status =
    (before after : Option (List ℕ)) → Appends before after text → At (answer_ways failed asked) status (call_of left now before after)

-- the same of what is found, or of the last line where it stops
abbrev pub AnswersSo : Type 0 → Asked → Option (List ℕ) → Option (List ℕ) → Result Found Stop → Type 0
AnswersSo failed asked left now (Ok found) = EndsSo failed asked left now (string_bytes found.text) (verdict_status found.verdict)
AnswersSo failed asked left now (Err stop) = EndsSo failed asked left now (stop_line stop) (stop_status stop)
