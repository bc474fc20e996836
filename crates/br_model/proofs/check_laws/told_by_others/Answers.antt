use Rattle.br_model.proofs.Worked.Checks.{told_else}
use Rattle.br_model.proofs.check_laws.told_by_others.Goals as goal

pub returns : goal.returns
returns c = told_else
