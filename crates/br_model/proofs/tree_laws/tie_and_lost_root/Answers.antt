use Rattle.br_model.proofs.Worked.Tree.{tie_and_lost_root}
use Rattle.br_model.proofs.tree_laws.tie_and_lost_root.Goals as goal

pub returns : goal.returns
returns c = tie_and_lost_root
