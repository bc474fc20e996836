use Rattle.chip_tables.proofs.Packing.{control-packed}
use Rattle.chip_tables.proofs.rows.pack_control.Goals as goal

pub returns : goal.returns
returns c =
    control-packed _ _ _ _ _ _ _ _ _ c.args.control c.set.ensures c.set-2.ensures c.set-3.ensures c.set-4.ensures
    c.bit.ensures.small c.bit-2.ensures.small c.bit-3.ensures.small c.bit-4.ensures.small c.bit.ensures.value c.bit-2.ensures.value c.bit-3.ensures.value c.bit-4.ensures.value
