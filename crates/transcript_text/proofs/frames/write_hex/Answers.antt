use Rattle.std.proofs.Common.{◌*◌, ap, arith, ◌∙◌}
use Rattle.std.proofs.Math.ListN.{length-set}
use Rattle.transcript_text.proofs.HexPairs.{goes_on}
use Rattle.transcript_text.proofs.frames.write_hex.Goals as goal

pub loop-i-preserved : goal.loop-i-preserved
loop-i-preserved c =
    let so_far = c.loop-i.invariant in (
      goes_on c.args.bytes.now c.loop-i.digits c.loop-i.i (2 * c.from-pair.result) (omega (arith, c.loop-i-test.true, so_far.2)) so_far.1
          (ap (λ n. 2 * n) c.from-pair.ensures) (omega (arith, c.type_inv.bytes c.loop-i.i)) so_far.0,
      length-set _ _ _ ∙ length-set _ _ _ ∙ so_far.1,
      so_far.2,
    )
