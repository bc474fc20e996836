use Rattle.whole_texts.proofs.Messages.{tells_table}
use Rattle.whole_texts.proofs.following.follow.Goals as goal

pub returns : goal.returns
returns c = tells_table _ _ c.follow_lines-end.result _ c.follow_lines-end.ensures c.in_ok-text.ensures c.is_well-well.ensures
