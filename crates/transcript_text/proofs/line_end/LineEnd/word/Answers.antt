use Rattle.std.proofs.Common.{arith}
use Rattle.std.proofs.lemmas.Str.{IsUtf8-append}
use Rattle.transcript_text.proofs.line_end.LineEnd.word.Goals as goal

pub invariant_of-self : goal.invariant_of-self
invariant_of-self c =
    let put = c.put_before-self-inside.ensures in
    (omega (arith, put.from, c.self.invariant.0), rw put.written (IsUtf8-append _ _ c.as_bytes.ensures.utf8 c.self.invariant.1))
