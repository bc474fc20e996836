use Rattle.std.proofs.Common.{◌∙◌, arith}
use Rattle.chip_tables.proofs.Packing.{port-packed}
use Rattle.chip_tables.proofs.rows.pack_port.Goals as goal

pub returns : goal.returns
returns c =
    port-packed _ _ _ _ _ _ _ _ _ _ _ _ _ c.args.r.now c.set.ensures c.set-2.ensures c.set-3.ensures c.set-4.ensures c.set-5.ensures c.set-6.ensures
    c.bit.ensures.small (omega (arith, c.from.ensures, c.requires))
    (omega (arith, c.from-2.ensures, c.bits.ensures.value, c.bits.ensures.below)) c.bit-2.ensures.small c.number_of_pvid-pvid.ensures.below c.bit-3.ensures.small
    c.bit.ensures.value c.from.ensures (c.from-2.ensures ∙ c.bits.ensures.value) c.bit-2.ensures.value c.number_of_pvid-pvid.ensures.value c.bit-3.ensures.value
