use Rattle.br_model.proofs.Worked.Laws.{refused_first}
use Rattle.br_model.proofs.refusal_laws.refused_first.Goals as goal

pub returns : goal.returns
returns c = refused_first
