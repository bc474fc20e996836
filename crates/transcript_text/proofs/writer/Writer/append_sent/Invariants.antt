use Rattle.std.proofs.Common.{◌≡◌, ◌++◌, IfSome}
use Rattle.std.specs.String.{string_bytes}
use Rattle.br_model.specs.Text.Transcript.{text}
use Rattle.transcript_lines.specs.Rows.{sent_lines}
use Rattle.transcript_text.specs.Frames.{frame_end}
use Rattle.transcript_text.proofs.writer.Writer.append_sent.Given as goal

abbrev pub invariant-loop-number : goal.invariant-loop-number
invariant-loop-number l = record {
  written : string_bytes l.to ≡ string_bytes l.fn.to ++ text (sent_lines l.id l.yielded l.untagged l.plain l.tagged);
  plain : IfSome l.self.plain (λ t. t ≡ frame_end l.plain);
  tagged : IfSome l.self.tagged (λ t. t ≡ frame_end l.tagged);
}
