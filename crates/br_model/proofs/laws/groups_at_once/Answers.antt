use Rattle.br_model.proofs.Worked.Domains.{groups_at_once}
use Rattle.br_model.proofs.laws.groups_at_once.Goals as goal

pub returns : goal.returns
returns c = groups_at_once
