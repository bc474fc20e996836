use Rattle.chip_pipeline.proofs.Leading.{mcast-leads}
use Rattle.chip_pipeline.proofs.lookup.multicast_flood.Goals as goal

pub returns : goal.returns
returns c d dom t port stands = mcast-leads d dom c.args.tables.now t port c.args.vid c.flood.result stands c.requires c.flood.ensures
