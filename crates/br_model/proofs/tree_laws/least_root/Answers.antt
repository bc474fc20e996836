use Rattle.br_model.proofs.Trees.Roots.{least_root}
use Rattle.br_model.proofs.tree_laws.least_root.Goals as goal

pub returns : goal.returns
returns c = least_root
