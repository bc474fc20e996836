-- Lines that a step adds to those before.
use Rattle.std.specs.Prelude.{◌≡◌, List, ◌++◌}
use Rattle.br_model.specs.declared.transcript.Line.{Line}
use Rattle.transcript_lines.specs.Rows.{Listed}

-- Lines of which this holds were added to those before.
pub record Added (are : List Line → Type 0) (before after : List Line) : Type 0 where
  pub lines : List Line
  pub so : are lines
  pub added : after ≡ before ++ lines

-- The savepoint that stood behind the lines before still stands there.
abbrev pub KeepsSaved : Listed → Listed → Type 0
KeepsSaved before after = before.saved ≡ before.lines → after.saved ≡ before.lines
