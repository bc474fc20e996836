-- What a command has read and written when it ends, by its status.
-- Source: this profile.
use Rattle.std.specs.Prelude.{ℕ, List, [], ◌∷◌, ◌++◌, codes}
use Rattle.std.specs.declared.option.Option.{Option}
use Rattle.std.specs.declared.option.Option.TheVariants.{None}
use Rattle.run_io.specs.Causes.{Rose}
use Rattle.br_model.specs.Program.Checks.{Finds, FindsBad, FindsSome, ReadsOn}
use Rattle.br_model.specs.Program.LiveText.{AnswersLive}
use Rattle.br_model.specs.Program.Outcomes.{Call, Lines, Makes, Answers, AnswersBad, BreaksOff, GoesOn, IsNotTooLong, Lacks, ReadsBehind, StopsBelow, StopsFull, scenario_lines}
use Rattle.br_model.specs.Program.Runs.{bad_told, body, body_parts, told}
use Rattle.br_model.specs.Table.Limits.{most_bytes, most_live_bytes}
use Rattle.run_status.specs.declared.status.Status.{Status}
use Rattle.run_status.specs.declared.status.Status.TheVariants as statuses

-- the number with which the program ends
abbrev pub status_code : Status → ℕ
status_code statuses.Ok = 0
status_code statuses.No = 1
status_code statuses.Usage = 2
status_code statuses.BadLine = 3
status_code statuses.ReadFault = 4
status_code statuses.WriteFault = 5
status_code statuses.NoMemory = 6
status_code statuses.TooLong = 7

-- a last line, with its line feed
abbrev pub last_line : List ℕ → List ℕ
last_line text = text ++ 10 ∷ []

-- what a run saw and did: what its source had left when it began and has left now, and what its sink had taken and has taken
abbrev pub call_of : Option (List ℕ) → Option (List ℕ) → Option (List ℕ) → Option (List ℕ) → Call
call_of left_before left_now taken_before taken_now =
    record { left_before = left_before; left_now = left_now; taken_before = taken_before; taken_now = taken_now }

-- The ways in which a command may end: for each status, what it has read and written then, where no write failed.
pub record Ways : Type 1 where
  pub Ok : Call → Type 0
  pub No : Call → Type 0
  pub Usage : Call → Type 0
  pub BadLine : Call → Type 0
  pub ReadFault : Call → Type 0
  pub WriteFault : Call → Type 0
  pub NoMemory : Call → Type 0
  pub TooLong : Call → Type 0

-- the way of this status
abbrev pub At : Ways → Status → Call → Type 0
At ways statuses.Ok call = ways.Ok call
At ways statuses.No call = ways.No call
At ways statuses.Usage call = ways.Usage call
At ways statuses.BadLine call = ways.BadLine call
At ways statuses.ReadFault call = ways.ReadFault call
At ways statuses.WriteFault call = ways.WriteFault call
At ways statuses.NoMemory call = ways.NoMemory call
At ways statuses.TooLong call = ways.TooLong call

-- How a command ends that has these ways: a write may fail, too. Then its output breaks off before one of these ends.
abbrev pub EndsIn : Ways → Status → Call → Type 0
EndsIn ways = At (record ways { WriteFault = BreaksOff (λ c. (status : Status) × At ways status c) })

-- No status comes. Each command names those that come over this one, so that no other comes.
abbrev pub no_ways : Ways
no_ways = record {
  Ok = λ call. ⊥;
  No = λ call. ⊥;
  Usage = λ call. ⊥;
  BadLine = λ call. ⊥;
  ReadFault = λ call. ⊥;
  WriteFault = λ call. ⊥;
  NoMemory = λ call. ⊥;
  TooLong = λ call. ⊥;
}

-- of a command that reads nothing and writes this
abbrev pub writing_ways : List ℕ → Ways
writing_ways output = record no_ways {
  Ok = λ call. Makes call output;
  NoMemory = λ call. Makes call (last_line (codes "no memory"));
}

-- of words that ask for no command
abbrev pub refusing_ways : Ways
refusing_ways = record no_ways {
  Usage = λ call. Makes call (last_line (codes "usage"));
  NoMemory = λ call. Makes call (last_line (codes "no memory"));
}

-- Of a command that reads at most `limit` bytes, and stops on its way: at a fault of reading, which comes only where `failed` holds, for
-- want of memory, or since all that it may read lets it go on. Before the last line stands `before` then, or some of its `parts`.
abbrev pub stopping_ways : Type 0 → ℕ → (List ℕ → Type 0) → (List ℕ → List ℕ) → (ℕ → List ℕ → List ℕ) → Ways
stopping_ways failed limit OnItsWay before parts = record no_ways {
  ReadFault = λ call. failed × StopsBelow limit OnItsWay before call (last_line (codes "read fault"));
  NoMemory = λ call. Lacks parts call (last_line (codes "no memory"));
  TooLong = λ call. StopsFull limit OnItsWay before call (last_line (codes "too long"));
}

-- Of a command that reads lines: where they end, well or badly, `answer` is what it writes for their bytes.
abbrev pub reading_ways : {End Why : Type 0} → Type 0 → Lines End Why → ℕ → (List ℕ → List ℕ) → (List ℕ → List ℕ) → (ℕ → List ℕ → List ℕ) → Ways
reading_ways failed lines limit answer before parts = record (stopping_ways failed limit (GoesOn lines) before parts) {
  Ok = λ call. Answers lines answer call lines.ended × IsNotTooLong lines limit call;
  BadLine = λ call. AnswersBad lines answer call × IsNotTooLong lines limit call;
}

-- nothing stands before the last line
abbrev pub nothing : List ℕ → List ℕ
nothing bytes = []

-- nothing has parts
abbrev pub no_parts : ℕ → List ℕ → List ℕ
no_parts n bytes = []

-- of a command that reads a scenario, and writes nothing before it has ended
abbrev pub scenario_ways : Type 0 → (List ℕ → List ℕ) → Ways
scenario_ways failed answer = reading_ways failed scenario_lines most_bytes answer nothing no_parts

-- Of `live`: where its scenario ends well, it writes the steps as workers took them and their transcript; else the last line alone. It reads
-- fewer bytes.
abbrev pub live_ways : Type 0 → Ways
live_ways failed = record (reading_ways failed scenario_lines most_live_bytes bad_told nothing no_parts) {
  Ok = λ call. AnswersLive call × IsNotTooLong scenario_lines most_live_bytes call;
}

-- of a check, which finds no difference, or one, or a bad line
abbrev pub check_ways : Type 0 → Ways
check_ways failed = record (stopping_ways failed most_bytes ReadsOn nothing no_parts) {
  Ok = λ call. Finds most_bytes call None;
  No = λ call. FindsSome most_bytes call;
  BadLine = λ call. FindsBad most_bytes call;
}

-- the first line of every transcript
abbrev pub first_line : List ℕ
first_line = last_line (codes "transcript 1")

-- of a replay: where it stops on its way, the body of the transcript stands before the last line
abbrev pub replay_ways : Type 0 → Ways
replay_ways failed = reading_ways failed scenario_lines most_bytes told body body_parts

-- It writes its first line before it reads.
abbrev pub Replays : Type 0 → Status → Call → Type 0
Replays failed status call = EndsIn (replay_ways failed) status call × ReadsBehind first_line call

-- a fault only where its count rose
abbrev pub Caused : Status → ℕ → ℕ → ℕ → ℕ → Type 0
Caused statuses.Ok reads reads_now writes writes_now = Unit {0}
Caused statuses.No reads reads_now writes writes_now = Unit {0}
Caused statuses.Usage reads reads_now writes writes_now = Unit {0}
Caused statuses.BadLine reads reads_now writes writes_now = Unit {0}
Caused statuses.ReadFault reads reads_now writes writes_now = Rose reads reads_now
Caused statuses.WriteFault reads reads_now writes writes_now = Rose writes writes_now
Caused statuses.NoMemory reads reads_now writes writes_now = Unit {0}
Caused statuses.TooLong reads reads_now writes writes_now = Unit {0}
