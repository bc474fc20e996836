use Rattle.std.proofs.Common.{◌≡◌, ◌++◌, take}
use Rattle.std.specs.String.{string_bytes}
use Rattle.br_model.specs.Text.Transcript.{text}
use Rattle.transcript_lines.specs.Rows.{expand}
use Rattle.transcript_text.proofs.writer.Writer.append_lines.Given as goal

abbrev pub invariant-loop-row : goal.invariant-loop-row
invariant-loop-row l = string_bytes l.to ≡ string_bytes l.fn.to ++ text (expand l.arena (take l.row-index l.rows))
