use Rattle.br_model.proofs.Trees.Kept.{own-kept}
use Rattle.br_model.proofs.tree_laws.own_stays.Goals as goal

pub returns : goal.returns
returns c = own-kept
