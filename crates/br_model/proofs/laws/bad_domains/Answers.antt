use Rattle.br_model.proofs.Worked.Domains.{bad_domains_are}
use Rattle.br_model.proofs.laws.bad_domains.Goals as goal

pub returns : goal.returns
returns c = bad_domains_are
