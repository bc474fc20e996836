use Rattle.std.proofs.Common.{None, refl}
use Rattle.br_model.specs.Table.Domains.{port_places}
use Rattle.stp_core.proofs.Reading.{empty-none}
use Rattle.stp_core.proofs.places.Places.empty.Goals as goal

pub invariant_of-result : goal.invariant_of-result
invariant_of-result c = empty-none port_places None refl
