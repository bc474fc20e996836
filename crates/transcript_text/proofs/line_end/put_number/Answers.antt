use Rattle.std.proofs.Common.{◌<◌, ◌^◌, arith}
use Rattle.transcript_text.proofs.Decimals.{decimal_short}
use Rattle.transcript_text.proofs.line_end.put_number.Goals as goal

pub write_digits-requires : goal.write_digits-requires
write_digits-requires c =
    let small : c.from.result < 2 ^ 32 = omega (arith, c.from.ensures, c.ranges.number.fits) in
    (omega (arith, decimal_short c.from.result small, c.requires.fits), c.requires.inside)

pub returns-clause-least : goal.returns-clause-least
returns-clause-least c =
    let small : c.from.result < 2 ^ 32 = omega (arith, c.from.ensures, c.ranges.number.fits) in
    omega (arith, decimal_short c.from.result small, c.write_digits.ensures.start)
