use Rattle.br_model.proofs.Forward.Needed.{comes-needed, needed-comes}
use Rattle.br_model.proofs.class_laws.comes_where_needed.Goals as goal

pub returns : goal.returns
returns c = record { needed = comes-needed; comes = needed-comes }
