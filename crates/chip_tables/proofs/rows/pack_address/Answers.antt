use Rattle.std.proofs.Common.{◌∙◌, arith}
use Rattle.chip_tables.proofs.Packing.{address-packed}
use Rattle.chip_tables.proofs.rows.pack_address.Goals as goal

pub returns : goal.returns
returns c =
    let both = address-packed _ _ _ _ _ _ _ _ _ _ _ c.args.r.now c.set.ensures c.set-2.ensures c.set-3.ensures c.set-4.ensures c.set-5.ensures
    c.requires (omega (arith, c.from.ensures, c.number.ensures.value, c.number.ensures.below)) c.number_of.ensures.below c.bit.ensures.small
    (c.from.ensures ∙ c.number.ensures.value) c.number_of.ensures.value c.bit.ensures.value in
    record { key = both.0; row = both.1 }
