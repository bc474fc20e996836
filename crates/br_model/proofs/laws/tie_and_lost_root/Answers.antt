use Rattle.br_model.proofs.Worked.WholeTree.{tie_and_lost_root}
use Rattle.br_model.proofs.laws.tie_and_lost_root.Goals as goal

pub returns : goal.returns
returns c = tie_and_lost_root
