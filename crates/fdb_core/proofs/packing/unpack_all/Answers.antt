use Rattle.fdb_core.proofs.ByAddress.{all-at, key-range}
use Rattle.fdb_core.proofs.packing.unpack_all.Goals as goal

pub unpack-requires-clause-low : goal.unpack-requires-clause-low
unpack-requires-clause-low c = (key-range _ (all-at c.args.numbers.now c.loop-number.number-index 0 c.requires c.loop-number-test.true)).0

pub unpack-requires-clause-high : goal.unpack-requires-clause-high
unpack-requires-clause-high c = (key-range _ (all-at c.args.numbers.now c.loop-number.number-index 0 c.requires c.loop-number-test.true)).1
