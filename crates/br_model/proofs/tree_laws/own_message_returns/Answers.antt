use Rattle.br_model.proofs.Worked.Tree.{own_message_returns}
use Rattle.br_model.proofs.tree_laws.own_message_returns.Goals as goal

pub returns : goal.returns
returns c = own_message_returns
