use Rattle.chip_tables.proofs.Packing.{vlan-packed}
use Rattle.chip_tables.proofs.rows.pack_vlan.Goals as goal

pub returns : goal.returns
returns c = vlan-packed _ _ c.args.r.now c.write_ports.ensures.ports c.write_ports-2.ensures.ports c.write_ports-2.ensures.before
