use Rattle.br_model.proofs.Trees.Roots.{roles_stand}
use Rattle.br_model.proofs.tree_laws.roles_stand.Goals as goal

pub returns : goal.returns
returns c = roles_stand
