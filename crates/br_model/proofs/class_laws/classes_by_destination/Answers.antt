use Rattle.br_model.proofs.Worked.Laws.{classes_are, ports_are}
use Rattle.br_model.proofs.class_laws.classes_by_destination.Goals as goal

pub returns : goal.returns
returns c = record { classes = classes_are; ports = ports_are }
