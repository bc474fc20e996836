-- Frames that are written as lines.
use Rattle.std.specs.Prelude.{◌≡◌, ℕ, ◌+◌, ◌*◌, ◌<◌, ◌≤◌, List, ◌++◌, length}
use Rattle.std.specs.String.{string_len, string_capacity}
use Rattle.std.specs.declared.option.Option.{Option}
use Rattle.run_io.specs.declared.output.Output.{Output}
use Rattle.run_io.specs.Writing.{full_length}
use Rattle.scenario_generator.specs.Generating.{At, text_left}
use Rattle.run_status.specs.Writing.{Written}

-- There is room for a frame's lines more, and for the last line, where the output isn't full by much.
pub record HasRoom (output : Output) : Type 0 where
  pub most : string_len output.text ≤ full_length + 207
  pub room : 2 * full_length ≤ string_capacity output.text

-- what was written, what is held and what is left are this together
pub record Together (before now : Option (List ℕ)) (text : List ℕ) (frames : At) (whole : List ℕ) : Type 0 where
  pub all : List ℕ
  pub written : Written before now text all
  pub whole_is : all ++ text_left frames ≡ whole

-- no frame is left
pub record PutsAll (old frames : At) (taken_before taken_now : Option (List ℕ)) (old_text text : List ℕ) : Type 0 where
  pub none : frames.left ≡ 0
  pub goes_on : (before : Option (List ℕ)) (whole : List ℕ) → Together before taken_before old_text old whole → Together before taken_now text frames whole

-- a write failed: some of it is missing
abbrev pub PutsSome : At → Option (List ℕ) → Option (List ℕ) → List ℕ → Type 0
PutsSome old taken_before taken_now old_text =
    (before : Option (List ℕ)) (whole : List ℕ) → Together before taken_before old_text old whole → (missing : List ℕ) × Written before taken_now missing whole × (0 < length missing)
