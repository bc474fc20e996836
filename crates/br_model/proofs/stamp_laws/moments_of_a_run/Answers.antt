use Rattle.br_model.proofs.Worked.Laws.{moments}
use Rattle.br_model.proofs.stamp_laws.moments_of_a_run.Goals as goal

pub returns : goal.returns
returns c = moments
