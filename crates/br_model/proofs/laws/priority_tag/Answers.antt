use Rattle.br_model.proofs.Worked.Rows.{priority_tag}
use Rattle.br_model.proofs.laws.priority_tag.Goals as goal

pub returns : goal.returns
returns c = priority_tag
