use Rattle.std.proofs.Common.{arith}
use Rattle.chip_tables.specs.Rows.{packed}
use Rattle.chip_tables.proofs.rows.pack_key.Goals as goal

pub returns-clause-value : goal.returns-clause-value
unfolding packed
returns-clause-value c = omega (arith, c.from.ensures, c.number.ensures.value, c.number-2.ensures.value)
