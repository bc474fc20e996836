use Rattle.br_model.proofs.Worked.Tree.{put_off_message}
use Rattle.br_model.proofs.tree_laws.put_off_message.Goals as goal

pub returns : goal.returns
returns c = put_off_message
