use Rattle.std.proofs.Common.{ap, ◌∙◌}
use Rattle.std.specs.Ordering.{nat_cmp}
use Rattle.br_model.specs.Data.Maps.{get}
use Rattle.br_model.specs.Control.Ends.{keys}
use Rattle.mdb_snoop.proofs.Mapped.{keys-mapped}
use Rattle.mdb_snoop.proofs.members.Members.ports.Goals as goal

pub returns : goal.returns
returns g c = keys-mapped (get nat_cmp (g.E.Ends.moments c.self.inside.ends)) c.self.inside.ports ∙ ap keys c.self.view_is
