use Rattle.std.proofs.Common.{ap, ◌∙◌}
use Rattle.std.specs.Prelude.{slice_index}
use Rattle.br_model.specs.Control.Ends.{keys}
use Rattle.mdb_snoop.proofs.Mapped.{keys-mapped}
use Rattle.mdb_snoop.proofs.moments.Moments.ports.Goals as goal

pub returns : goal.returns
returns c = keys-mapped (slice_index c.self.inside.moments) c.self.inside.ports ∙ ap keys c.self.view_is
