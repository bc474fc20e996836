use Rattle.std.proofs.Common.{sym, ◌∙◌}
use Rattle.open_addressing.specs.Hashed.{mix}
use Rattle.chip_tables.specs.GroupCells.{folded, head_of, address_bits}
use Rattle.chip_tables.proofs.GroupRows.{hash-numbered}
use Rattle.chip_tables.proofs.groups.GroupCellsCellsGroupKeyFanRow.hash.Goals as goal

pub returns : goal.returns
returns c = c.hashed.ensures ∙ (λ t. mix (folded (c.head.ensures.value t) (c.address.ensures.value t)))
    ∙ sym (hash-numbered (head_of c.args.key.now) (address_bits c.args.key.now.1) c.address.ensures.below)
