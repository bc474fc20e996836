use Rattle.std.proofs.Common.{◌∙◌}
use Rattle.chip_pipeline.proofs.Keys.{address-is}
use Rattle.chip_pipeline.proofs.entries.address_row.Goals as goal

pub returns : goal.returns
returns c d dom t stands = c.address.ensures ∙ address-is d dom c.args.tables.now t c.args.vid c.args.mac stands
