use Rattle.chip_pipeline.proofs.Leading.{bcast-leads}
use Rattle.chip_pipeline.proofs.lookup.to_all.Goals as goal

pub returns : goal.returns
returns c d dom t port stands = bcast-leads d dom c.args.tables.now t port c.args.vid c.flood.result stands c.requires c.flood.ensures
