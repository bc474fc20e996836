use Rattle.std.proofs.Common.{arith}
use Rattle.std.proofs.lemmas.Str.{IsUtf8-append}
use Rattle.transcript_text.proofs.Decimals.{decimal_utf8}
use Rattle.transcript_text.proofs.line_end.LineEnd.number_near.Goals as goal

pub invariant_of-self : goal.invariant_of-self
invariant_of-self c =
    let put = c.put-self-inside.ensures in
    (omega (arith, put.start, c.self.invariant.0), rw put.written (IsUtf8-append _ _ (decimal_utf8 c.args.number (omega (arith, c.ranges.number.fits))) c.self.invariant.1))
