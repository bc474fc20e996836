use Rattle.br_model.proofs.Worked.Laws.{is-beyond}
use Rattle.br_model.proofs.state_laws.one_address_too_many.Goals as goal

pub returns : goal.returns
returns c = is-beyond
