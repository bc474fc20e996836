use Rattle.std.proofs.Common.{◌∙◌}
use Rattle.std.specs.Ordering.{nat_cmp}
use Rattle.br_model.specs.Data.Maps.{get}
use Rattle.mdb_snoop.proofs.Mapped.{is_some-mapped}
use Rattle.mdb_snoop.proofs.members.Members.has.Goals as goal

pub returns : goal.returns
returns g c = rw c.number.ensures.value at c.has.ensures.value ∙ is_some-mapped (get nat_cmp (g.E.Ends.moments c.self.inside.ends)) c.self.inside.ports c.args.port c.args.self.now c.self.view_is
