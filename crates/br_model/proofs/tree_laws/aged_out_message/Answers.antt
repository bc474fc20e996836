use Rattle.br_model.proofs.Worked.Tree.{aged_out_message}
use Rattle.br_model.proofs.tree_laws.aged_out_message.Goals as goal

pub returns : goal.returns
returns c = aged_out_message
