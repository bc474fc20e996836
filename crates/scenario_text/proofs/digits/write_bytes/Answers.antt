use Rattle.std.proofs.Common.{refl, arith, length, ◌≡◌, ◌%◌, ◌*◌, set, sym, ap, ◌∙◌}
use Rattle.std.proofs.Math.ListN.{length-set}
use Rattle.scenario_text.proofs.Pairs.{none_read, goes_on}
use Rattle.scenario_text.proofs.digits.write_bytes.Goals as goal

pub loop-i-init : goal.loop-i-init
loop-i-init c = (none_read c.args.digits.now c.args.out.now, c.requires, refl)

pub loop-i-preserved : goal.loop-i-preserved
loop-i-preserved c =
    let so_far = c.loop-i.invariant in
    let byte = c.pair-byte in
    let same : length c.loop-i.out ≡ length (set c.loop-i.out c.loop-i.i (byte.result % 256)) = sym (length-set c.loop-i.out c.loop-i.i (byte.result % 256)) in (
      goes_on c.args.digits.now c.loop-i.out c.loop-i.i byte.result c.loop-i.all so_far.1 (omega (arith, so_far.2)) byte.ensures.byte byte.ensures.bad so_far.0,
      so_far.1 ∙ ap (λ n. 2 * n) same,
      so_far.2 ∙ same,
    )
