use Rattle.std.proofs.Common.{length, ap, arith}
use Rattle.std.proofs.lemmas.List.{length-drop}
use Rattle.transcript_text.proofs.Starts.{last_bytes}
use Rattle.transcript_text.proofs.line_end.LineEnd.copy_before.Goals as goal

pub returns-clause-written : goal.returns-clause-written
returns-clause-written c =
    last_bytes c.args.text.now c.put_chunk.new.bytes c.self.inside.bytes c.args.self.now c.put_chunk.result c.args.end c.self.inside.from
    c.put_chunk.ensures.written c.self.view_is (omega arith) (omega (arith, c.requires.short, length-drop c.self.inside.from c.self.inside.bytes, ap length c.self.view_is)) c.self.invariant.0
    (omega arith)
