-- The first line of some bytes, and texts of whole lines.
use Rattle.std.specs.Prelude.{◌≡◌, ℕ, ◌<◌, ◌==◌, Bool, true, List, [], ◌∷◌, ◌++◌, length}
use Rattle.std.specs.declared.option.Option.{Option}
use Rattle.std.specs.declared.option.Option.TheVariants.{None, Some}
use Rattle.br_model.specs.Program.Checks.{lines_in}
use Rattle.br_model.specs.Theorems.WholeLines.{is_line}
use Rattle.transcript_check.specs.declared.lines.Parts.{Parts}

-- The bytes have this first line, with its line feed.
pub record IsFront (bytes : List ℕ) (parts : Parts) : Type 0 where
  pub joined : bytes ≡ parts.line.now ++ 10 ∷ parts.behind.now
  pub feedless : is_line parts.line.now ≡ true

abbrev pub CutsFront : List ℕ → Option Parts → Type 0
CutsFront bytes None = is_line bytes ≡ true
CutsFront bytes (Some parts) = IsFront bytes parts

-- the lines of a text that has this first one; without bytes there are none
abbrev pub lines_by : List ℕ → List ℕ → List ℕ → List (List ℕ)
lines_by [] line behind = []
lines_by (byte ∷ bytes) line behind = line ∷ lines_in behind

-- the first line, with or without its line feed, and the others
pub record CutsFirst (bytes : List ℕ) (parts : Parts) : Type 0 where
  pub lines : lines_in bytes ≡ lines_by bytes parts.line.now parts.behind.now
  pub none : bytes ≡ [] → parts.line.now ≡ []
  pub shorter : 0 < length bytes → length parts.behind.now < length bytes

-- whether a text is empty or ends with a line feed
abbrev pub is_whole : List ℕ → Bool
is_whole [] = true
is_whole (byte ∷ []) = byte == 10
is_whole (byte ∷ c ∷ text) = is_whole (c ∷ text)
