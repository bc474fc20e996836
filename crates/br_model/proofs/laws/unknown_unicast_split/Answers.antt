use Rattle.br_model.proofs.Worked.Chips.{unknown_unicast_split}
use Rattle.br_model.proofs.laws.unknown_unicast_split.Goals as goal

pub returns : goal.returns
returns c = unknown_unicast_split
