use Rattle.br_model.proofs.Forward.Wanted.{class-wanted, wanted-class}
use Rattle.br_model.proofs.class_laws.class_is_wanted.Goals as goal

pub returns : goal.returns
returns c = record { is = class-wanted; only = wanted-class }
