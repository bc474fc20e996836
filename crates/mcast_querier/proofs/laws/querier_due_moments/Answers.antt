use Rattle.mcast_querier.proofs.Rows as rows
use Rattle.mcast_querier.proofs.laws.querier_due_moments.Goals as goal

pub returns : goal.returns
returns c = rows.querier_due_moments
