use Rattle.std.proofs.Common.{arith, ◌∙◌}
use Rattle.bridge_command.proofs.Growing.{too_large}
use Rattle.bridge_command.proofs.operands.number_up_to.Goals as goal

pub returns-in_err-checked_mul-clause-value : goal.returns-in_err-checked_mul-clause-value
returns-in_err-checked_mul-clause-value c =
    let here = c.loop-digit in
    c.from_residual.ensures
    ∙ rw c.as_bytes-digit-items.ensures.value at
    (too_large c.as_bytes-digit-items.result.now here.digit-index 0 c.args.most (omega (arith, c.loop-digit-test.true, here.auto.digit-index-end)) c.ranges.most.fits
    (omega (arith, here.invariant, c.in_err-checked_mul.ensures)))

pub returns-in_err-number-clause-value : goal.returns-in_err-number-clause-value
returns-in_err-number-clause-value c =
    let here = c.loop-digit in
    c.from_residual-in_err-number.ensures
    ∙ rw c.as_bytes-digit-items.ensures.value at
    (too_large c.as_bytes-digit-items.result.now here.digit-index 0 c.args.most (omega (arith, c.loop-digit-test.true, here.auto.digit-index-end)) c.ranges.most.fits
    (omega (arith, here.invariant, c.in_ok-checked_mul.ensures, c.from-digit.ensures, c.in_err-number.ensures)))
