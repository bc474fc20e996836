use Rattle.std.proofs.Common.{◌∙◌, arith}
use Rattle.chip_tables.proofs.GroupRows.{group-key-packed}
use Rattle.chip_tables.proofs.groups.pack_group_key.Goals as goal

pub returns : goal.returns
returns c =
    group-key-packed _ _ _ _ _ _ _ _ _ _ _ _ c.args.key.now.1 c.set.ensures c.set-2.ensures c.set-3.ensures c.set-4.ensures c.set-5.ensures
    (omega (arith, c.from.ensures, c.number.ensures.value, c.number.ensures.high)) c.version.ensures.small c.halves-high.ensures.high c.halves-high.ensures.low
    (c.from.ensures ∙ c.number.ensures.value) c.version.ensures.value c.address.ensures.value c.halves-high.ensures.value
