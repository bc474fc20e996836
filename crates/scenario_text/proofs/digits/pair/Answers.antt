use Rattle.std.proofs.Common.{arith}
use Rattle.scenario_text.proofs.Pairs.{at_high, at_low, sum_fits, spelled, not_spelled}
use Rattle.scenario_text.proofs.digits.pair.Goals as goal

pub returns-clause-byte : goal.returns-clause-byte
returns-clause-byte c = spelled c.args.high c.args.low _ _ (at_high c.from.result c.args.high c.from.ensures (omega arith)) (at_low c.from-2.result c.args.low c.from-2.ensures (omega arith))

pub returns-clause-bad : goal.returns-clause-bad
returns-clause-bad c = not_spelled c.args.high c.args.low _ _ (at_high c.from.result c.args.high c.from.ensures (omega arith)) (at_low c.from-2.result c.args.low c.from-2.ensures (omega arith))

pub overflow_add-result : goal.overflow_add-result
overflow_add-result c =
    let sum = sum_fits c.args.high c.args.low _ _ (at_high c.from.result c.args.high c.from.ensures (omega arith)) (at_low c.from-2.result c.args.low c.from-2.ensures (omega arith)) in
    omega (arith, sum)
