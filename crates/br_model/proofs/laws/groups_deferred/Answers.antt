use Rattle.br_model.proofs.Worked.Domains.{groups_deferred}
use Rattle.br_model.proofs.laws.groups_deferred.Goals as goal

pub returns : goal.returns
returns c = groups_deferred
