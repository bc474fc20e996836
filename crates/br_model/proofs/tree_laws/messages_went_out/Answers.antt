use Rattle.br_model.proofs.Trees.Kept.{messages-sent}
use Rattle.br_model.proofs.tree_laws.messages_went_out.Goals as goal

pub returns : goal.returns
returns c = messages-sent
