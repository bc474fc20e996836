use Rattle.br_model.proofs.Worked.Tree.{acknowledged_change}
use Rattle.br_model.proofs.tree_laws.acknowledged_change.Goals as goal

pub returns : goal.returns
returns c = acknowledged_change
