use Rattle.std.proofs.Common.{sym, ◌∙◌}
use Rattle.mcast_querier.proofs.Sized.{holds_source_in}
use Rattle.mcast_querier.proofs.hearing.asker_in.Goals as goal

pub source_in-requires : goal.source_in-requires
source_in-requires c = holds_source_in c.args.b.now c.args.h.now _ _ (sym c.classify.ensures.value ∙ c.in-Query-default-true.is)
