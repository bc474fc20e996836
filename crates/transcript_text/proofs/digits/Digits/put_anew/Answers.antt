use Rattle.std.proofs.Common.{◌<◌, ◌^◌, arith}
use Rattle.transcript_text.proofs.Hundreds.{few}
use Rattle.transcript_text.proofs.digits.Digits.put_anew.Goals as goal

pub write_digits-self-inside-requires : goal.write_digits-self-inside-requires
write_digits-self-inside-requires c =
    let small : c.args.number < 2 ^ 32 = omega (arith, c.ranges.number.fits) in
    (rw c.from.ensures (few c.args.number small), omega arith)
