-- The first line of bytes.
use Rattle.std.specs.Prelude.{◌≡◌, ℕ, true, List, ◌∷◌, ◌++◌}
use Rattle.std.specs.declared.option.Option.{Option}
use Rattle.std.specs.declared.option.Option.TheVariants.{None, Some}
use Rattle.br_model.specs.Theorems.WholeLines.{is_line}
use Rattle.section_lines.specs.declared.cut.Line.{Line}

-- the bytes have this first line, with its line feed
pub record IsFront (bytes : List ℕ) (line : Line) : Type 0 where
  pub joined : bytes ≡ line.bytes.now ++ 10 ∷ line.behind.now
  pub feedless : is_line line.bytes.now ≡ true

-- or no line feed
abbrev pub CutsFront : List ℕ → Option Line → Type 0
CutsFront bytes None = is_line bytes ≡ true
CutsFront bytes (Some line) = IsFront bytes line
