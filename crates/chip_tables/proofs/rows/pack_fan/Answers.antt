use Rattle.chip_tables.proofs.Packing.{fan-packed}
use Rattle.chip_tables.proofs.rows.pack_fan.Goals as goal

pub returns : goal.returns
returns c = fan-packed _ _ _ _ _ c.args.r.now c.write_ports.ensures.ports c.set.ensures c.set-2.ensures c.bit.ensures.small c.bit-2.ensures.small c.bit.ensures.value c.bit-2.ensures.value
