use Rattle.std.proofs.Common.{◌∙◌}
use Rattle.chip_pipeline.proofs.Keys.{group-is}
use Rattle.chip_pipeline.proofs.entries.group_row.Goals as goal

pub returns : goal.returns
returns c d dom t stands = c.group.ensures ∙ group-is d dom c.args.tables.now t c.args.vid c.args.group stands
