use Rattle.chip_tables.proofs.Packing.{trap-packed}
use Rattle.chip_tables.proofs.rows.pack_trap.Goals as goal

pub returns : goal.returns
returns c = trap-packed _ _ _ c.args.on c.set.ensures c.bit.ensures.small c.bit.ensures.value
