use Rattle.br_model.proofs.Worked.Tree.{managed_tree}
use Rattle.br_model.proofs.tree_laws.managed_tree.Goals as goal

pub returns : goal.returns
returns c = managed_tree
