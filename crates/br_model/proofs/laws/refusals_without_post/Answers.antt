use Rattle.br_model.proofs.Worked.Chips.{refusals_without_post}
use Rattle.br_model.proofs.laws.refusals_without_post.Goals as goal

pub returns : goal.returns
returns c = refusals_without_post
