use Rattle.scenario_text.proofs.HeadRead.{head_read}
use Rattle.scenario_text.proofs.laws.head_is_read.Goals as goal

pub returns : goal.returns
returns c = head_read
