use Rattle.br_model.proofs.Worked.Checks.{checks}
use Rattle.br_model.proofs.check_laws.worked_checks.Goals as goal

pub returns : goal.returns
returns c = checks
